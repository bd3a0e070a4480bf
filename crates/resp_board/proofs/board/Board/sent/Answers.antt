use Rattle.std.proofs.Common.{slice_get, take}
use Rattle.resp_board.specs.Histories.{with_bytes}
use Rattle.resp_board.specs.Rows.{unsent_in}
use Rattle.resp_board.proofs.Joining.{sent-bytes}
use Rattle.resp_board.proofs.Running.{none-sent, still}
use Rattle.resp_board.proofs.board.Board.sent.Goals as goal

pub invariant_of-self : goal.invariant_of-self
invariant_of-self c =
    let i = c.args.self.now in
    let l = c.send.new.lines.items in
    let text = take c.args.count (unsent_in (slice_get i.lines.items c.args.line.place)) in record {
      run = still i.clients.slots i.clients.slots i.lines.items l i.last i.last (λ h j. (
        with_bytes c.args.line.place text h,
        sent-bytes i.clients.slots i.lines.items l i.last h c.args.line.place text
            (none-sent (slice_get i.lines.items c.args.line.place) c.args.count) c.send.ensures.sent j,
      )) i.run;
    }

pub returns-clause-run : goal.returns-clause-run
returns-clause-run c h j =
    let i = c.args.self.now in
    let text = take c.args.count (unsent_in (slice_get i.lines.items c.args.line.place)) in
    sent-bytes i.clients.slots i.lines.items c.send.new.lines.items i.last h c.args.line.place text
    (none-sent (slice_get i.lines.items c.args.line.place) c.args.count) c.send.ensures.sent j
