use Rattle.std.proofs.Common.{sym, ◌∙◌}
use Rattle.resp_schedule.proofs.Shown.{due_is}
use Rattle.resp_schedule.proofs.Lists.{without-none, without-take}
use Rattle.resp_schedule.proofs.schedule.Schedule.close.Goals as goal

pub returns-in-Closed-clause-queue : goal.returns-in-Closed-clause-queue
returns-in-Closed-clause-queue c =
    sym (without-none c.args.place c.args.self.now.queue (c.in-Closed.ensures.not_queued (λ e. cc)))

pub returns-in-Closed-clause-due : goal.returns-in-Closed-clause-due
returns-in-Closed-clause-due c =
    sym (without-take c.args.place c.args.self.now.due c.args.self.now.queue (c.in-Closed.ensures.not_queued (λ e. cc)))

pub returns-in-Idle-clause-queue : goal.returns-in-Idle-clause-queue
returns-in-Idle-clause-queue c =
    c.close_idle.ensures.same_queue.0 ∙
    sym (without-none c.args.place c.args.self.now.queue (c.in-Idle.ensures.not_queued (λ e. cc)))

pub returns-in-Idle-clause-due : goal.returns-in-Idle-clause-due
returns-in-Idle-clause-due c =
    due_is c.args.self.now c.close_idle.new.self c.close_idle.ensures.same_queue.0 c.close_idle.ensures.same_queue.1 ∙
    sym (without-take c.args.place c.args.self.now.due c.args.self.now.queue (c.in-Idle.ensures.not_queued (λ e. cc)))
