-- Counts over the events of a value.
use Rattle.std.specs.Prelude.{ℕ, ◌+◌, List, [], ◌∷◌}
use Rattle.resp_fronts.specs.Events as e
use Rattle.resp_fronts.specs.Events.{Event}

-- 1 for an Open
abbrev pub open_count_of : Event → ℕ
open_count_of (e.Open k n) = 1
open_count_of _ = 0

-- 1 for a Close
abbrev pub close_count_of : Event → ℕ
close_count_of e.Close = 1
close_count_of _ = 0

-- the number of aggregates that open
abbrev pub open_count : List Event → ℕ
open_count [] = 0
open_count (event ∷ es) = open_count_of event + open_count es

-- the number of aggregates that close
abbrev pub close_count : List Event → ℕ
close_count [] = 0
close_count (event ∷ es) = close_count_of event + close_count es

-- 1 for an event with which a value begins
abbrev pub begin_count_of : Event → ℕ
begin_count_of e.Null = 1
begin_count_of (e.Bool truth) = 1
begin_count_of (e.Int number) = 1
begin_count_of (e.Text kind) = 1
begin_count_of (e.Open k n) = 1
begin_count_of _ = 0

-- the number of values that begin, at any level
abbrev pub begin_count : List Event → ℕ
begin_count [] = 0
begin_count (event ∷ es) = begin_count_of event + begin_count es
