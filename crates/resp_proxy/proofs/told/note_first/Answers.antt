use Rattle.std.proofs.Common.{◌≡◌, Some, arith, slice_get, subst}
use Rattle.std.proofs.lemmas.Grind.{common_steps}
use Rattle.resp_board.specs.Runs.{clients_on}
use Rattle.resp_proxy.specs.Telling.{Notes}
use Rattle.resp_proxy.proofs.Tellings.{covers-one, notes-one}
use Rattle.resp_proxy.proofs.told.note_first.Goals as goal

pub loop-before-preserved : goal.loop-before-preserved
loop-before-preserved c =
    let l = c.loop-before in
    let clients = clients_on c.args.board.now c.args.line.place in
    let queued = c.note.new.queued.items in
    let noted : Notes c.in-Some.who l.queued.items queued = subst (λ q. Notes c.in-Some.who q queued) c.reserve.ensures.items c.note.ensures in
    let here : slice_get clients l.before ≡ Some c.in-Some.who = grind (arith, common_steps) in (
      notes-one clients c.args.queued.now.items l.queued.items queued l.before c.in-Some.who here l.invariant.0 noted,
      covers-one clients l.queued.items queued l.before c.in-Some.who here l.invariant.1 noted,
      grind (arith, common_steps),
    )
