-- Equal events give equal values, since what they build is the value alone.
use Rattle.std.proofs.Common.{◌≡◌, Option, None, Some, refl, sym, ap, ◌∙◌}
use Rattle.resp_value.specs.Data.{Datum}
use Rattle.resp_value.specs.Data as d
use Rattle.resp_value.specs.Data.{scalar}
use Rattle.resp_value.specs.Trees.{Tree}
use Rattle.resp_value.specs.TreeValues.{value}
use Rattle.resp_fronts.specs.Events.{events, without_places}
use Rattle.resp_decode.specs.Builds.{Construction, built_from, nothing}
use Rattle.resp_decode.proofs.Folds.{builds-tree}

-- the value that is whole, or a null
abbrev whole_value : Option Datum → Datum
whole_value None = scalar d.Null
whole_value (Some x) = x

-- what a tree's events build is its value
built_value : (u : Tree) → whole_value (built_from (without_places (events 0 u))).whole ≡ value u
built_value u = ap (λ (b : Construction). whole_value b.whole) (builds-tree 0 u nothing refl)

pub equal_events_give_equal_values : (u v : Tree) →
    without_places (events 0 u) ≡ without_places (events 0 v) → value u ≡ value v
equal_events_give_equal_values u v same =
    sym (built_value u) ∙ ap (λ es. whole_value (built_from es).whole) same ∙ built_value v
