use Rattle.std.proofs.Common.{◌≡◌, Bool, ℕ, List, Option, None, Some, Result, length, refl, subst, sym}
use Rattle.resp_session.specs.Connections.{Connection, shown_pushes}
use Rattle.resp_session.specs.Worlds.{connection_at}
use Rattle.resp_wire.specs.Worlds.{outcome_of}
use Rattle.resp_wire.specs.declared.event.Outcome.{Outcome}
use Rattle.resp_wire.specs.declared.event.Outcome.TheVariants.{Done}
use Rattle.resp_cli_loop.specs.Plays.{AreThere, AreShownOn}
use Rattle.resp_cli_loop.specs.Printed.{PlaysText, heard_text, outcome_text}
use Rattle.resp_cli_loop.specs.declared.play.PlayError.{PlayError}
use Rattle.resp_cli_loop.proofs.play.Before.write_outcome.Goals as goal

-- what was heard since, where it is known what was heard before
heard_since : (client replies pushes : ℕ) (is_flush : Bool) (outcome : Outcome) (before after : Option Connection) (a b : Option (List ℕ)) (f g : ℕ)
    (r : Result (Unit {0}) PlayError) → outcome ≡ Done → AreShownOn replies pushes before → AreThere outcome before after →
    ((c : Connection) → after ≡ Some c → PlaysText a b f g r (heard_text client replies pushes c)) →
    PlaysText a b f g r (outcome_text client is_flush (outcome_of outcome) before after)
heard_since client replies pushes is_flush outcome before after a b f g r is shown there prints =
    subst (λ o. PlaysText a b f g r (outcome_text client is_flush (outcome_of o) before after)) (sym is)
    (of_both before after shown (subst (λ o. AreThere o before after) is there) prints)
  where
    of_both : (before after : Option Connection) → AreShownOn replies pushes before → AreThere Done before after →
        ((c : Connection) → after ≡ Some c → PlaysText a b f g r (heard_text client replies pushes c)) →
        PlaysText a b f g r (outcome_text client is_flush (outcome_of Done) before after)
    of_both None after shown there prints = absurd there
    of_both (Some c) None shown there prints = absurd there
    of_both (Some c) (Some d) (replies_are, pushes_are) there prints =
        subst (λ n. PlaysText a b f g r (heard_text client n (length (shown_pushes c)) d)) replies_are
        (subst (λ n. PlaysText a b f g r (heard_text client replies n d)) pushes_are (prints d refl))

pub returns-in-Done-clause-prints : goal.returns-in-Done-clause-prints
returns-in-Done-clause-prints g c = λ limits next shows before shown there.
    heard_since c.args.self.now.client c.args.self.now.replies c.args.self.now.pushes c.args.is_flush c.args.outcome before
    (connection_at next.connections c.args.self.now.client) _ _ _ _ c.write_heard.result c.in-Done.is shown there (c.write_heard.ensures.prints limits next shows)
