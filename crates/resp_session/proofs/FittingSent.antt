-- What fits is sent.
use Rattle.std.proofs.Common.{[], ◌∷◌, Some, refl, arith, codes}
use Rattle.resp_value.specs.Bounds.{Bounds, AreBounds}
use Rattle.resp_value.specs.Canonical.{Fits, IsFirstOver}
use Rattle.resp_value.specs.Data.{Datum}
use Rattle.resp_value.specs.Rules.{Rules, rules_under}
use Rattle.resp_value.specs.Words.{command_of}
use Rattle.resp_value.specs.declared.cause.Cause.TheVariants as cause
use Rattle.resp_value.specs.declared.cause.Limit.{Limit}
use Rattle.resp_value.specs.declared.cause.Limit.TheVariants.{Depth, Length, Items, Total}
use Rattle.resp_value.specs.declared.version.Version.TheVariants.{Two, Three}
use Rattle.resp_session.specs.Connections.{push_message}
use Rattle.resp_session.specs.Pushed.{APushHappens, PushesThatFitAreSent, RequestsThatFitAreSent, greeted_and_pushed}
use Rattle.resp_session.specs.Replies.{bulk_string}
use Rattle.resp_session.specs.Requests.{FitsRequest, Hello, request_words}
use Rattle.resp_session.specs.Runs.{Done, Run}
use Rattle.resp_session.specs.Worlds.{World, Greet, Push, ToServer, after_event, new_world}
use Rattle.resp_session.proofs.SmallValues.{least_fits}

pub requests_that_fit_are_sent : RequestsThatFitAreSent
requests_that_fit_are_sent limits count request sent fits few cause.Syntax r = r
requests_that_fit_are_sent limits count request sent fits few cause.Double r = r
requests_that_fit_are_sent limits count request sent fits few cause.Version r = r
requests_that_fit_are_sent limits count request sent fits few cause.NestedPush r = r
requests_that_fit_are_sent limits count request sent fits few cause.Range r = r
requests_that_fit_are_sent limits count request sent fits few cause.Depth r = r
requests_that_fit_are_sent limits count request sent fits few cause.Length r = r
requests_that_fit_are_sent limits count request sent fits few cause.Total r = r
requests_that_fit_are_sent limits count request sent fits few cause.Truncated r = r
requests_that_fit_are_sent limits count request sent fits few cause.OutOfMemory r = r
requests_that_fit_are_sent limits count request sent fits few cause.Streamed r = r
requests_that_fit_are_sent limits count request sent fits few cause.Items r = r
requests_that_fit_are_sent limits count request sent fits few cause.Unasked r = r
requests_that_fit_are_sent limits count request sent fits few cause.TooLarge r = r.1 fits
requests_that_fit_are_sent limits count request sent fits few cause.BadCommand r = absurd (cc)
requests_that_fit_are_sent limits count request sent fits few cause.TooMany r = let many = r.2 in omega (arith, few, many)
requests_that_fit_are_sent limits count request sent fits few cause.TooManySessions r = r
requests_that_fit_are_sent limits count request sent fits few cause.NoSession r = r
requests_that_fit_are_sent limits count request sent fits few cause.Closing r = r
requests_that_fit_are_sent limits count request sent fits few cause.NotInVersion r = r
requests_that_fit_are_sent limits count request sent fits few cause.PushBelowTop r = r
requests_that_fit_are_sent limits count request sent fits few (cause.OverLimits limit) r = r
requests_that_fit_are_sent limits count request sent fits few cause.Read r = r
requests_that_fit_are_sent limits count request sent fits few cause.Write r = r
requests_that_fit_are_sent limits count request sent fits few cause.TooManyTurns r = r
requests_that_fit_are_sent limits count request sent fits few cause.Ended r = r
requests_that_fit_are_sent limits count request sent fits few cause.BadLine r = r
requests_that_fit_are_sent limits count request sent fits few cause.BadDigits r = r
requests_that_fit_are_sent limits count request sent fits few cause.Busy r = r
requests_that_fit_are_sent limits count request sent fits few cause.BadLimits r = r

not_over : (r : Rules) (x : Datum) (over : Limit) → IsFirstOver r x over → Fits r x → ⊥
not_over r x Depth over fits = let h = fits.within_depth in omega (arith, over, h)
not_over r x Length over fits = let h = fits.within_length in let k = over.1 in omega (arith, h, k)
not_over r x Items over fits = let h = fits.within_items in let k = over.2 in omega (arith, h, k)
not_over r x Total over fits = let h = fits.within_total in let k = over.3 in omega (arith, h, k)

pub pushes_that_fit_are_sent : PushesThatFitAreSent
pushes_that_fit_are_sent limits push fits cause.Syntax r = r
pushes_that_fit_are_sent limits push fits cause.Double r = r.1 fits.allows_doubles
pushes_that_fit_are_sent limits push fits cause.Version r = r
pushes_that_fit_are_sent limits push fits cause.NestedPush r = r
pushes_that_fit_are_sent limits push fits cause.Range r = r
pushes_that_fit_are_sent limits push fits cause.Depth r = r
pushes_that_fit_are_sent limits push fits cause.Length r = r
pushes_that_fit_are_sent limits push fits cause.Total r = r
pushes_that_fit_are_sent limits push fits cause.Truncated r = r
pushes_that_fit_are_sent limits push fits cause.OutOfMemory r = r
pushes_that_fit_are_sent limits push fits cause.Streamed r = r
pushes_that_fit_are_sent limits push fits cause.Items r = r
pushes_that_fit_are_sent limits push fits cause.Unasked r = r
pushes_that_fit_are_sent limits push fits cause.TooLarge r = r
pushes_that_fit_are_sent limits push fits cause.BadCommand r = r
pushes_that_fit_are_sent limits push fits cause.TooMany r = r
pushes_that_fit_are_sent limits push fits cause.TooManySessions r = r
pushes_that_fit_are_sent limits push fits cause.NoSession r = r
pushes_that_fit_are_sent limits push fits cause.Closing r = r
pushes_that_fit_are_sent limits push fits cause.NotInVersion r = absurd (cc)
pushes_that_fit_are_sent limits push fits cause.PushBelowTop r = r.2 fits.push_at_top
pushes_that_fit_are_sent limits push fits (cause.OverLimits limit) r = not_over (rules_under Three limits) push limit r.3 fits
pushes_that_fit_are_sent limits push fits cause.Read r = r
pushes_that_fit_are_sent limits push fits cause.Write r = r
pushes_that_fit_are_sent limits push fits cause.TooManyTurns r = r
pushes_that_fit_are_sent limits push fits cause.Ended r = r
pushes_that_fit_are_sent limits push fits cause.BadLine r = r
pushes_that_fit_are_sent limits push fits cause.BadDigits r = r
pushes_that_fit_are_sent limits push fits cause.Busy r = r
pushes_that_fit_are_sent limits push fits cause.BadLimits r = r

abbrev greeting : Datum
greeting = command_of (request_words (Hello (Some Three)))

greeting_fits : (limits : Bounds) → AreBounds limits → FitsRequest limits (Hello (Some Three))
greeting_fits limits bounds = least_fits limits bounds Two greeting (tt, (tt, tt)) (tt, (tt, (tt, tt))) (tt, (tt, tt))
    (omega arith) (omega arith) (omega arith) (omega arith)

abbrev push : Datum
push = (push_message (bulk_string (codes "x") ∷ [])).value

push_fits : (limits : Bounds) → AreBounds limits → Fits (rules_under Three limits) push
push_fits limits bounds = least_fits limits bounds Three push (tt, tt) tt (tt, tt) (omega arith) (omega arith) (omega arith) (omega arith)

abbrev greeted : World
greeted = after_event (new_world 1) (Greet 1 (Some Three))

abbrev answered : World
answered = after_event greeted (ToServer 1 1000)

abbrev pushed : World
pushed = after_event answered (Push 1 (bulk_string (codes "x") ∷ []))

abbrev the_run : (limits : Bounds) → AreBounds limits → Run limits (new_world 1) greeted_and_pushed pushed
the_run limits bounds = (
  Done,
  greeted,
  (refl, requests_that_fit_are_sent limits 0 (Hello (Some Three)) refl (greeting_fits limits bounds) (omega arith), refl),
  (
    Done,
    answered,
    (refl, (λ cause r. r), refl),
    (Done, pushed, (refl, pushes_that_fit_are_sent limits push (push_fits limits bounds), refl), refl),
  ),
)

pub a_push_happens : APushHappens
a_push_happens limits bounds = (pushed, the_run limits bounds, refl)
