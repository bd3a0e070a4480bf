use Rattle.std.proofs.Common.{◌+◌, ◌++◌, arith, inr, subst, sym}
use Rattle.resp_frames.specs.Framing.{HasBegun, frame_rules}
use Rattle.resp_proxy.proofs.Takings.{rest-of}
use Rattle.resp_proxy.specs.Telling.{Notes}
use Rattle.resp_proxy.specs.declared.error.ServerError.TheVariants as error
use Rattle.resp_proxy.proofs.Probings.{falls, next-step, step-kept, still-in-step}
use Rattle.resp_proxy.proofs.Replyings.{all-replied, begun-replied, end-replied, is-for, more-replied, refuses, stuck-replied}
use Rattle.resp_proxy.proofs.replies.take_replies.Goals as goal

pub returns-then-is_err-clause-taken : goal.returns-then-is_err-clause-taken
returns-then-is_err-clause-taken c =
    let l = c.loop-used in
    end-replied c.args.line.place c.args.frames.now l.frames c.args.begun.now l.begun l.begun c.args.board.now l.board l.board c.args.queued.now.items
    l.queued.items c.args.piece.now l.used error.OutOfMemory l.invariant.0 (λ p passed. passed) (λ r front begun. tt)

pub returns-in-Err-clause-taken : goal.returns-in-Err-clause-taken
returns-in-Err-clause-taken c =
    let l = c.loop-used in
    end-replied c.args.line.place c.args.frames.now l.frames c.args.begun.now l.begun c.take_reply.new.begun c.args.board.now l.board c.take_reply.new.board c.args.queued.now.items
    l.queued.items c.args.piece.now l.used c.in-Err.error l.invariant.0 c.in-Err.ensures.unchanged.run
    (λ r front begun. refuses (frame_rules l.frames) c.args.line.place c.take_reply.new.board (front ++ rest-of l.used c.args.piece.now) c.in-Err.error
    (c.in-Err.ensures.refused r front begun))

pub returns-in_default-clause-taken : goal.returns-in_default-clause-taken
returns-in_default-clause-taken c =
    let l = c.loop-used in
    begun-replied c.args.line.place c.args.frames.now l.frames c.args.begun.now l.begun c.take_reply.new.begun c.args.board.now l.board c.take_reply.new.board c.args.queued.now.items
    l.queued.items c.args.piece.now l.used c.in-Ok.found l.invariant.0 (grind arith) c.in-Ok.ensures.more

pub returns-then-reply-eq0-clause-taken : goal.returns-then-reply-eq0-clause-taken
returns-then-reply-eq0-clause-taken c =
    let l = c.loop-used in
    stuck-replied c.args.line.place c.args.frames.now l.frames c.args.begun.now l.begun c.take_reply.new.begun c.args.board.now l.board c.take_reply.new.board
    c.args.queued.now.items l.queued.items c.args.piece.now l.used c.in-Ok.found c.in-Some.reply l.invariant.0 (grind arith) (grind arith)
    c.in-Ok.ensures.progress

pub returns-then-reply-eq0-clause-told : goal.returns-then-reply-eq0-clause-told
returns-then-reply-eq0-clause-told c =
    let l = c.loop-used in
    let one = c.take_reply in
    let queued = c.note.new.queued.items in
    let noted = subst (λ q. Notes c.in-Some.reply.client q queued) c.make_room.ensures.same c.note.ensures in
    (more-replied c.args.line.place c.args.frames.now l.frames one.new.frames c.args.begun.now l.begun one.new.begun c.args.board.now l.board one.new.board c.args.queued.now.items
    l.queued.items queued c.args.piece.now l.used c.in-Ok.found c.in-Some.reply l.invariant.0 (grind arith) (grind arith)
    one.ensures.same_clients one.ensures.ready one.ensures.same_rules c.in-Ok.ensures.client noted c.in-Ok.ensures.answered).tells

pub loop-used-preserved : goal.loop-used-preserved
loop-used-preserved c =
    let l = c.loop-used in
    let one = c.take_reply in
    let queued = c.note.new.queued.items in
    let noted = subst (λ q. Notes c.in-Some.reply.client q queued) c.make_room.ensures.same c.note.ensures in (
      more-replied c.args.line.place c.args.frames.now l.frames one.new.frames c.args.begun.now l.begun one.new.begun c.args.board.now l.board one.new.board c.args.queued.now.items
          l.queued.items queued c.args.piece.now l.used c.in-Ok.found c.in-Some.reply l.invariant.0 (grind arith) (grind arith)
          one.ensures.same_clients one.ensures.ready one.ensures.same_rules c.in-Ok.ensures.client noted c.in-Ok.ensures.answered,
      next-step c.args.prober.now.who c.args.prober.now.expected.items c.in-Some.reply.client l.board one.new.board l.invariant.1
          (is-for c.args.line.place c.in-Ok.found c.in-Some.reply l.board one.new.board (grind arith) c.in-Ok.ensures.client).others (c.stays_in_step.ensures.in_step (grind arith)),
    )

pub returns-then-not-stays_in_step-clause-taken : goal.returns-then-not-stays_in_step-clause-taken
returns-then-not-stays_in_step-clause-taken c =
    let l = c.loop-used in
    let one = c.take_reply in
    let queued = c.note.new.queued.items in
    let noted = subst (λ q. Notes c.in-Some.reply.client q queued) c.make_room.ensures.same c.note.ensures in
    let next =
    more-replied c.args.line.place c.args.frames.now l.frames one.new.frames c.args.begun.now l.begun one.new.begun c.args.board.now l.board one.new.board c.args.queued.now.items
    l.queued.items queued c.args.piece.now l.used c.in-Ok.found c.in-Some.reply l.invariant.0 (grind arith) (grind arith)
    one.ensures.same_clients one.ensures.ready one.ensures.same_rules c.in-Ok.ensures.client noted c.in-Ok.ensures.answered in
    end-replied c.args.line.place c.args.frames.now one.new.frames c.args.begun.now one.new.begun one.new.begun c.args.board.now one.new.board one.new.board c.args.queued.now.items
    queued c.args.piece.now (l.used + c.in-Some.reply.used) error.OutOfStep next (λ p passed. passed) (λ r front begun. tt)

pub returns-then-not-stays_in_step-clause-told : goal.returns-then-not-stays_in_step-clause-told
returns-then-not-stays_in_step-clause-told c =
    let l = c.loop-used in
    let one = c.take_reply in
    let queued = c.note.new.queued.items in
    let noted = subst (λ q. Notes c.in-Some.reply.client q queued) c.make_room.ensures.same c.note.ensures in
    (more-replied c.args.line.place c.args.frames.now l.frames one.new.frames c.args.begun.now l.begun one.new.begun c.args.board.now l.board one.new.board c.args.queued.now.items
    l.queued.items queued c.args.piece.now l.used c.in-Ok.found c.in-Some.reply l.invariant.0 (grind arith) (grind arith)
    one.ensures.same_clients one.ensures.ready one.ensures.same_rules c.in-Ok.ensures.client noted c.in-Ok.ensures.answered).tells

pub returns-then-not-stays_in_step-clause-step : goal.returns-then-not-stays_in_step-clause-step
returns-then-not-stays_in_step-clause-step c r front begun p passed =
    let l = c.loop-used in
    let one = c.take_reply in
    inr (falls c.args.line.place c.args.prober.now.who c.args.prober.now.expected.items c.args.frames.now l.frames c.args.begun.now l.begun one.new.begun c.args.board.now l.board
    one.new.board c.args.queued.now.items l.queued.items c.args.piece.now l.used c.in-Ok.found c.in-Some.reply l.invariant.0 (grind arith)
    c.in-Ok.ensures.answered l.invariant.1 (c.stays_in_step.ensures.out_of_step (grind arith)) r front begun p passed)

pub returns-clause-taken : goal.returns-clause-taken
returns-clause-taken c =
    let l = c.loop-used in
    all-replied c.args.line.place c.args.frames.now l.frames c.args.begun.now l.begun c.args.board.now l.board c.args.queued.now.items l.queued.items c.args.piece.now l.used
    l.invariant.0 (grind arith)

pub returns-in-Err-clause-step : goal.returns-in-Err-clause-step
returns-in-Err-clause-step c r front begun p passed =
    let l = c.loop-used in
    let line = c.args.line.place in
    let new = c.take_reply.new.board in
    let h = l.invariant.0 in
    let t = h.taken r front begun p passed in
    let rejected =
    c.in-Err.ensures.refused (h.ready r) t.after (subst (λ rules. HasBegun rules l.begun t.after) (sym h.same_rules) t.begun) in
    step-kept (frame_rules l.frames) line c.args.prober.now.who c.args.prober.now.expected.items (t.after ++ rest-of l.used c.args.piece.now) c.in-Err.error
    c.args.board.now p new rejected
    (still-in-step c.args.prober.now.who c.args.prober.now.expected.items l.board new l.invariant.1 c.in-Err.ensures.unchanged.bytes)
