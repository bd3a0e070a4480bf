use Rattle.std.proofs.Common.{◌≡◌, arith, drop, subst, take, take-append-drop}
use Rattle.std.proofs.lemmas.Grind.{common_steps}
use Rattle.resp_print.specs.Written.{WritesText}
use Rattle.resp_print.proofs.WrittenLemmas.{writes_next}
use Rattle.resp_print.proofs.text.write_text.Goals as goal

pub returns-else-count-eq0 : goal.returns-else-count-eq0
returns-else-count-eq0 g c =
    let n = c.in-Ok.count in
    let text = c.args.text.now in
    let none_failed : g.W.Sink.failures c.write.new.self ≡ g.W.Sink.failures c.args.writer.now = grind (arith, common_steps) in
    subst (WritesText (g.W.Sink.written c.args.writer.now) (g.W.Sink.written c.write_rest.new.writer) (g.W.Sink.failures c.args.writer.now)
    (g.W.Sink.failures c.write_rest.new.writer) c.write_rest.result) (take-append-drop n text)
    (writes_next c.write_rest.result _ _ _ _ _ _ (take n text) (drop n text) (c.in-Ok.ensures.bytes, none_failed) c.write_rest.ensures)
