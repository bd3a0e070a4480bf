-- The times of the commands that wait.
use Rattle.std.specs.Prelude.{◌≡◌, ℕ, ◌-◌, List, length, slice_get, Option, None, Some, option_and_then, option_map}
use Rattle.resp_tap.specs.Lines.{asked_at}
use Rattle.resp_tap.specs.LinesOf.{kept_after, kept_in}
use Rattle.resp_tap.specs.Taps.{tap_state}
use Rattle.resp_tap.specs.declared.moment.Moment.{Moment}
use Rattle.resp_tap.specs.declared.stamp.Stamp.{Stamp}
use Rattle.resp_tap.specs.declared.seen.Seen.{Seen}
use Rattle.resp_tap.specs.declared.seen.Seen.TheVariants as seen
use Rattle.resp_tap.specs.declared.tap.Tap.{Tap}

-- the number of commands that wait
abbrev pub waits_in : Tap → ℕ
waits_in t = length (tap_state t).line.due

-- The times of the commands that wait, in the order of the commands. The time of a command is known if a moment was given
-- with its last bytes.
abbrev pub times_of : Tap → List (Option ℕ)
times_of t = kept_in t.line.pending.items

-- the index of the command that the next reply belongs to
abbrev pub next_asked : Tap → ℕ
next_asked t = asked_at (tap_state t).line.due

-- this is the time of the command that the next reply belongs to, if a command waits and its time is known
abbrev pub IsAskedIn : Tap → Option ℕ → Type 0
IsAskedIn t asked = asked ≡ option_and_then (λ time. time) (slice_get (times_of t) (next_asked t))

-- the time that is kept of a command that arrived at this moment
abbrev pub steady_of : Option Moment → Option ℕ
steady_of = option_map (λ (now : Moment). now.steady)

-- The times of the commands that wait are kept: the time of a new command is added, and those of commands that wait no
-- more are removed.
abbrev pub KeepsTimes : Option Moment → Tap → Tap → Type 0
KeepsTimes now old new = times_of new ≡ kept_after (steady_of now) (waits_in old) (waits_in new) (times_of old)

-- how long the command with this time waited, if this is its reply
abbrev pub waited_of : Moment → Option ℕ → Seen → Option ℕ
waited_of now (Some asked) (seen.Reply number kept) = Some (now.steady - asked)
waited_of now _ _ = None

-- the printed time of a result, if a moment is given
abbrev pub stamp_of : Option Moment → Option ℕ → Seen → Option Stamp
stamp_of now asked what =
    option_map (λ (now : Moment). record { utc = now.utc; waited = waited_of now asked what }) now
