use Rattle.std.proofs.Common.{drop, subst, sym, take, take-append-drop}
use Rattle.std.proofs.lemmas.List.{take_rest}
use Rattle.resp_io.specs.Devices.{Appends}
use Rattle.resp_print.proofs.text.write_rest.Goals as goal

pub returns-in-Err : goal.returns-in-Err
returns-in-Err g c =
    let rest = drop c.args.written c.args.text.now in
    let n = c.in-Err.field-0.written in
    let appended = subst (λ z. Appends (g.W.Sink.written c.args.writer.now) (g.W.Sink.written c.write_all.new.sink) (take n z))
    (take_rest c.args.text.now c.args.written) c.in-Err.ensures.part in (
      record { part = take n rest; beyond = drop n rest; whole = sym (take-append-drop n rest); appended = appended },
      c.in-Err.ensures.failed_once,
    )
