-- Playing the steps of a script.
use Rattle.std.proofs.Common.{◌≡◌, ℕ, ◌<◌, List, Option, None, Result, Ok, Err, length, get_or, sym, ap, subst, ◌∙◌, arith}
use Rattle.std.proofs.lemmas.List.{get_or-map, length-map}
use Rattle.resp_wire.specs.declared.event.Event.{Event}
use Rattle.std.specs.Result.{IfErr}
use Rattle.resp_io.specs.Devices.{count_after}
use Rattle.resp_value.specs.declared.cause.Cause.{Cause}
use Rattle.resp_cli_loop.specs.Plays.{EndsPrint, FailsToWrite, IsAtStep, KeepsCause, WhereStopped}
use Rattle.resp_cli_loop.specs.declared.play.PlayError.{PlayError}
use Rattle.resp_cli_loop.specs.declared.play.PlayError.TheVariants.{Stopped, Write, Memory}

-- a stop at the line of one step is at the line of a step
at_step : (steps : List (ℕ × Option Event)) (i : ℕ) (step : ℕ × Option Event) (error : PlayError) → i < length steps → step ≡ get_or steps i step →
    WhereStopped (λ at cause. at ≡ step.0) error → IsAtStep steps error
at_step steps i step (Stopped line cause) within is at = (
  i,
  omega (arith, within, length-map steps (λ (step : ℕ × Option Event). step.0)),
  get_or-map (λ (step : ℕ × Option Event). step.0) steps i step line within ∙ ap (λ (z : ℕ × Option Event). z.0) (sym is) ∙ sym at,
)
at_step steps i step Write within is at = tt
at_step steps i step Memory within is at = tt

-- the same, of a slice of the steps
pub at_step_of : (steps items : List (ℕ × Option Event)) (i : ℕ) (step : ℕ × Option Event) (error : PlayError) → items ≡ steps → i < length items →
    step ≡ get_or items i step → WhereStopped (λ at cause. at ≡ step.0) error → IsAtStep steps error
at_step_of steps items i step error same within is at = subst (λ z. IsAtStep z error) same (at_step items i step error within is at)

-- what was printed last is no stop
pub no_stop_at_step : (steps : List (ℕ × Option Event)) (f g : ℕ) (r : Result (Unit {0}) PlayError) → EndsPrint f g r → IfErr r (IsAtStep steps)
no_stop_at_step steps f g (Ok x) ends = tt
no_stop_at_step steps f g (Err Write) ends = tt
no_stop_at_step steps f g (Err Memory) ends = tt
no_stop_at_step steps f g (Err (Stopped line cause)) ends = absurd ends

pub no_stop_kept : (before after : Option Cause) (f g : ℕ) (r : Result (Unit {0}) PlayError) → (before ≡ None → after ≡ None) → EndsPrint f g r →
    KeepsCause before after r
no_stop_kept before after f g (Ok x) going ends = going
no_stop_kept before after f g (Err Write) going ends = tt
no_stop_kept before after f g (Err Memory) going ends = tt
no_stop_kept before after f g (Err (Stopped line cause)) going ends = absurd ends

-- and one write failed where that was the reason to end
pub fails_to_write : (f g h : ℕ) (r : Result (Unit {0}) PlayError) → g ≡ f → EndsPrint g h r → FailsToWrite f h r
fails_to_write f g h (Ok x) same ends = ends ∙ same
fails_to_write f g h (Err Write) same ends = subst (λ n. h ≡ count_after 1 n) same ends
fails_to_write f g h (Err Memory) same ends = ends ∙ same
fails_to_write f g h (Err (Stopped line cause)) same ends = absurd ends
