use Rattle.std.proofs.Common.{◌≡◌, ◌∙◌, is_ok, subst, sym, true}
use Rattle.resp_board.specs.Runs.{WhereRun}
use Rattle.resp_proxy.specs.Probing.{KeepsStep}
use Rattle.resp_proxy.specs.Visiting.{SendsSome}
use Rattle.resp_proxy.specs.Proxies.{board_in}
use Rattle.resp_proxy.specs.ServerLines.{LineTerms, WhereBegunBy, expected_of, line_of, prober_of}
use Rattle.resp_proxy.proofs.Probings.{if-some, step-sent}
use Rattle.resp_proxy.proofs.Readings.{none-sent}
use Rattle.resp_proxy.proofs.proxy.Proxy.visit_server.Goals as goal

pub returns-else-is_ok-clause-visited : goal.returns-else-is_ok-clause-visited
returns-else-is_ok-clause-visited g c front h = record {
  between = board_in c.read_server-read.new.self;
  reads = c.read_server-read.ensures.reads front h;
  sends = none-sent (line_of c.args.line.now) (g.W.Sink.written c.args.writer.now) (board_in c.read_server-read.new.self);
}

pub returns-then-is_ok-clause-visited : goal.returns-then-is_ok-clause-visited
returns-then-is_ok-clause-visited g c front h =
    let read = c.read_server-read in record {
      between = board_in read.new.self;
      reads = read.ensures.reads front h;
      sends =
          subst (λ (terms : LineTerms). SendsSome terms.id.place (g.W.Sink.written c.args.writer.now) (g.W.Sink.written c.send-written.new.writer) (board_in read.new.self) (board_in c.send-written.new.self))
          read.ensures.same_line c.send-written.ensures.sends;
    }

pub returns-then-is_ok-clause-step : goal.returns-then-is_ok-clause-step
returns-then-is_ok-clause-step g c =
    let old = c.args.self.now in
    let line = c.args.line.now in
    let read = c.read_server-read in
    let mid = board_in read.new.self in
    let new = board_in c.send-written.new.self in
    let fine : is_ok read.result.1 ≡ true = sym c.is_ok.ensures.value ∙ c.if-is_ok.true in
    if-some read.result.0
    (WhereBegunBy line (λ front. WhereRun (board_in old) (λ h.
    KeepsStep (line_of line) (prober_of line) (expected_of line) read.result.1 (board_in old) h mid)))
    (WhereBegunBy line (λ front. WhereRun (board_in old) (λ h.
    KeepsStep (line_of line) (prober_of line) (expected_of line) read.result.1 (board_in old) h new)))
    (λ step front begun h passed. step-sent (line_of line) (prober_of line) (expected_of line) read.result.1 (board_in old) h mid new fine
    c.send-written.ensures.same_bytes (step front begun h passed)) read.ensures.step
