-- One event that was taken.
use Rattle.std.proofs.Common.{◌≡◌, ℕ, false, List, [], ◌∷◌, Option, Result, Ok, Err, length, refl, sym, subst, ◌∙◌, append-nil}
use Rattle.resp_value.specs.Bounds.{Bounds}
use Rattle.resp_session.specs.Runs.{Step, connection_of, is_gone}
use Rattle.resp_session.specs.Worlds.{World, WorldEvent, client_of}
use Rattle.resp_print.specs.Written.{AppendsPart}
use Rattle.resp_wire.specs.Worlds.{Shows, WorldState, outcome_of}
use Rattle.resp_wire.specs.declared.event.Outcome.{Outcome}
use Rattle.resp_wire.specs.declared.event.Outcome.TheVariants.{Done}
use Rattle.resp_cli_loop.proofs.HeardOf.{are_there, still_there}
use Rattle.resp_cli_loop.specs.Plays.{AreThere, ArePlayed, PlaysPart, PlaysTo, text_of_step}
use Rattle.resp_cli_loop.specs.Printed.{PlayedEvent, PlaysText}
use Rattle.resp_cli_loop.specs.declared.play.PlayError.{PlayError}
use Rattle.resp_cli_loop.specs.declared.play.PlayError.TheVariants.{Stopped, Write, Memory}

-- an event that was taken was played
one_played : (limits : Bounds) (w next : World) (played : PlayedEvent) (outcome : Outcome) → Step limits w played.event (outcome_of outcome) next →
    ArePlayed limits w (played ∷ [])
one_played limits w next played outcome step = record {
  text = text_of_step w played (outcome_of outcome) next;
  last = next;
  plays = (outcome_of outcome, next, [], step, (refl, refl), sym (append-nil (text_of_step w played (outcome_of outcome) next)));
}

-- a part of its text
one_part : {L : Type 0} (is_honest : L → Type 0) (limits : Bounds) (w next : World) (played : PlayedEvent) (outcome : Outcome) (after : WorldState L)
    (a b : Option (List ℕ)) → Step limits w played.event (outcome_of outcome) next → Shows is_honest after limits next →
    AppendsPart a b (text_of_step w played (outcome_of outcome) next) → PlaysPart is_honest limits w (played ∷ []) after a b
one_part is_honest limits w next played outcome after a b step shows part = record {
  failing = record { done = []; event = played; later = []; whole = refl };
  played = record { text = []; last = w; plays = (refl, refl) };
  outcome = outcome_of outcome;
  next = next;
  step = step;
  shows = shows;
  begun = part.part;
  unwritten = part.beyond;
  parts = part.whole;
  appended = part.appended;
}

-- an event that was taken is all that was played
pub took : {L : Type 0} (is_honest : L → Type 0) (limits : Bounds) (w next : World) (played : PlayedEvent) (outcome : Outcome) (after : WorldState L)
    (a b : Option (List ℕ)) (f g : ℕ) (r : Result (Unit {0}) PlayError) → Step limits w played.event (outcome_of outcome) next →
    Shows is_honest after limits next → PlaysText a b f g r (text_of_step w played (outcome_of outcome) next) →
    PlaysTo is_honest limits w (played ∷ []) after a b r
unfolding one_played
took is_honest limits w next played outcome after a b f g (Ok x) step shows prints =
    record { played = one_played limits w next played outcome step; shows = shows; appended = prints.0 }
took is_honest limits w next played outcome after a b f g (Err Write) step shows prints =
    one_part is_honest limits w next played outcome after a b step shows prints.0
took is_honest limits w next played outcome after a b f g (Err Memory) step shows prints =
    one_part is_honest limits w next played outcome after a b step shows prints.0
took is_honest limits w next played outcome after a b f g (Err (Stopped line cause)) step shows prints = absurd prints

-- an event that happened was not of nobody
happened : (limits : Bounds) (w next : World) (event : WorldEvent) (outcome : Outcome) → Step limits w event (outcome_of outcome) next → outcome ≡ Done →
    is_gone (connection_of w event) ≡ false
happened limits w next event outcome step is = (subst (λ o. Step limits w event (outcome_of o) next) is step).0

-- the connection of an event stands before and after where the event happened
pub stands : {L : Type 0} (is_honest : L → Type 0) (limits : Bounds) (w next : World) (event : WorldEvent) (outcome : Outcome) (before after : WorldState L) →
    Shows is_honest before limits w → Shows is_honest after limits next → length after.ends ≡ length before.ends →
    Step limits w event (outcome_of outcome) next → AreThere outcome (connection_of w event) (connection_of next event)
stands is_honest limits w next event outcome before after shows shows' as_many step =
    are_there outcome (connection_of w event) (connection_of next event) (happened limits w next event outcome step)
    (λ c there. still_there w.connections next.connections (client_of event) c
    (sym shows'.each.as_many ∙ as_many ∙ shows.each.as_many) there)
