use Rattle.std.proofs.Common.{◌≡◌, ◌∙◌, [], refl, subst, sym}
use Rattle.resp_session.specs.Runs.{connection_of}
use Rattle.resp_session.specs.Worlds.{client_of, connection_at}
use Rattle.resp_print.proofs.WrittenLemmas.{Appends-none}
use Rattle.resp_wire.specs.Worlds.{event_of, outcome_of}
use Rattle.resp_cli_loop.specs.Plays.{AreThere, AreShownOn, played}
use Rattle.resp_cli_loop.specs.Printed.{PlaysText, outcome_text}
use Rattle.resp_cli_loop.proofs.Taking.{stands, took}
use Rattle.resp_cli_loop.proofs.play.take.Goals as goal

pub returns-in-Err-clause-plays : goal.returns-in-Err-clause-plays
returns-in-Err-clause-plays g c = λ limits w shows. record {
  stopped_at = record { done = []; event = played c.args.line c.args.is_flush (event_of c.args.event.now); later = []; whole = refl };
  at_line = refl;
  played = record { text = []; last = w; plays = (refl, refl) };
  appended = Appends-none (g.W.Sink.written c.args.writer.now);
}

pub returns-clause-plays : goal.returns-clause-plays
returns-clause-plays g c = λ limits w shows.
    let event = event_of c.args.event.now in
    let outcome = c.in-Ok.outcome in
    let (next, step, shows') = c.in-Ok.ensures.happens limits w shows in
    let before = connection_of w event in
    let after = g.W.Sink.written c.write_outcome.new.writer in
    let is : c.new-before.result.client ≡ client_of event = c.new-before.ensures.client ∙ c.client.ensures in
    let shown : AreShownOn c.new-before.result.replies c.new-before.result.pushes before =
    subst (λ n. AreShownOn c.new-before.result.replies c.new-before.result.pushes (connection_at w.connections n)) c.client.ensures
    (c.new-before.ensures.heard limits w shows) in
    let there : AreThere outcome before (connection_at next.connections c.new-before.result.client) =
    subst (λ n. AreThere outcome before (connection_at next.connections n)) (sym is)
    (stands g.L.Link.is_honest limits w next event outcome c.args.world.now c.step.new.self shows shows' c.step.ensures.as_many step) in
    let prints = c.write_outcome.ensures.prints limits next shows' before shown there in
    took g.L.Link.is_honest limits w next (played c.args.line c.args.is_flush event) outcome c.step.new.self _ _ _ _ c.write_outcome.result step shows'
    (subst (λ n. PlaysText (g.W.Sink.written c.args.writer.now) after (g.W.Sink.failures c.args.writer.now) (g.W.Sink.failures c.write_outcome.new.writer)
    c.write_outcome.result (outcome_text n c.args.is_flush (outcome_of outcome) before (connection_at next.connections n))) is prints)

pub returns-clause-memory : goal.returns-clause-memory
returns-clause-memory g c = λ memory limits w shows.
    let (next, step, shows') = c.in-Ok.ensures.happens limits w shows in
    c.write_outcome.ensures.memory memory limits next shows'
