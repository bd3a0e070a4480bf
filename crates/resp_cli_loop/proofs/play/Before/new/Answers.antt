use Rattle.std.proofs.Common.{◌≡◌, [], ◌∷◌, List, None, refl, sym, ap, subst, ◌∙◌, arith}
use Rattle.resp_session.specs.Connections.{Connection}
use Rattle.resp_session.specs.Worlds.{connection_at}
use Rattle.resp_wire.proofs.worlds.Places.{none_beyond}
use Rattle.resp_cli_loop.specs.Plays.{AreShownOn}
use Rattle.resp_cli_loop.proofs.ShownValues.{has_shown}
use Rattle.resp_cli_loop.proofs.play.Before.new.Goals.{then-client-eq0-via-then-client-eq0, then-client-eq0-via-else-client-eq0+then-client-clients}
use Rattle.resp_cli_loop.proofs.play.Before.new.Goals as goal

none_at_zero : (cs : List Connection) → connection_at cs 0 ≡ None
none_at_zero [] = refl
none_at_zero (c ∷ cs) = refl

pub returns-then-client-eq0-clause-heard : goal.returns-then-client-eq0-clause-heard
returns-then-client-eq0-clause-heard g c = λ limits w shows.
    let none : connection_at w.connections c.args.client ≡ None = elim c.then-client-eq0.branch [
      | then-client-eq0-via-then-client-eq0 at ↦ ap (connection_at w.connections) at.if-client-eq0.true ∙ none_at_zero w.connections
      | then-client-eq0-via-else-client-eq0+then-client-clients at ↦
          none_beyond w.connections c.args.client (omega (arith, at.clients.ensures, at.if-client-clients.true, shows.each.as_many))
    ] in
    subst (AreShownOn 0 0) (sym none) tt

pub returns-clause-heard : goal.returns-clause-heard
returns-clause-heard g c = λ limits w shows.
    has_shown (connection_at w.connections c.args.client) c.replies.result.now c.pushes.result.now (c.replies.ensures limits w shows)
    (c.pushes.ensures limits w shows)
