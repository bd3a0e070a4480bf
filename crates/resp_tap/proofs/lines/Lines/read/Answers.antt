use Rattle.std.proofs.Common.{[], take, drop, sym}
use Rattle.std.proofs.lemmas.List.{append-nil, take-append-drop}
use Rattle.resp_tap.proofs.LineReading.{line_ended, line_refused, without_lf, without_lf_before}
use Rattle.resp_tap.proofs.lines.Lines.read.Goals as goal

pub returns-in-Err-clause-told : goal.returns-in-Err-clause-told
returns-in-Err-clause-told c = λ taken reads.
    let old = c.args.tap.now in
    let new = c.refuse_command.new.self in
    let piece = c.args.piece.now in
    line_refused c.args.now c.args.self.now c.hold.new.self old new piece piece [] c.refuse_command.result c.in-Err.rejected.cause c.in-Err.rejected.at
    (sym (append-nil piece)) (without_lf piece c.in_default.ensures) c.refuse_command.ensures.step c.refuse_command.ensures.after c.in-Err.ensures.refused

pub returns-in-Ok-hold-clause-told : goal.returns-in-Ok-hold-clause-told
returns-in-Ok-hold-clause-told c = λ taken reads.
    line_ended c.args.now c.args.self.now c.end.new.self c.args.tap.now c.end.new.tap c.args.piece.now c.hold-2.new.self.held.items c.in-Some.end
    c.end.result.used c.end.result.seen c.in-Some.ensures c.in-Ok-hold.ensures.held c.end.ensures.used c.end.ensures.nothing_held
    (c.end.ensures.told taken reads)

pub returns-in-Err-hold-clause-told : goal.returns-in-Err-hold-clause-told
returns-in-Err-hold-clause-told c = λ taken reads.
    let old = c.args.tap.now in
    let new = c.refuse_command-in-Err-hold.new.self in
    let piece = c.args.piece.now in
    line_refused c.args.now c.args.self.now c.hold-2.new.self old new piece (take c.in-Some.end piece) (drop c.in-Some.end piece)
    c.refuse_command-in-Err-hold.result c.in-Err-hold.rejected.cause c.in-Err-hold.rejected.at (sym (take-append-drop c.in-Some.end piece))
    (without_lf_before piece c.in-Some.end c.in-Some.ensures) c.refuse_command-in-Err-hold.ensures.step c.refuse_command-in-Err-hold.ensures.after
    c.in-Err-hold.ensures.refused
