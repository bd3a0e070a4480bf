use Rattle.std.proofs.Common.{sym}
use Rattle.resp_scan.specs.Machine.Fields.{place_of}
use Rattle.resp_scan.proofs.Soundness.Runs.{big_part}
use Rattle.resp_scan.proofs.machine.Machine.big.Goals as goal

pub returns-then-run-gt0 : goal.returns-then-run-gt0
returns-then-run-gt0 c =
    rw (c.gives.ensures, c.requires) (sym (big_part (place_of c.args.self.now) c.args.self.now.room c.digit_run-run.result c.args.piece.now
    (rw (← c.text_room.ensures, ← c.min-most.ensures) c.digit_run-run.ensures.run) c.if-run-gt0.true))
