use Rattle.std.proofs.Common.{◌≡◌, ◌+◌, ◌++◌, ◌<◌, ◌≤◌, false, arith, length, rules, subst}
use Rattle.resp_server.specs.Rejections.{OnRejection, Rejects}
use Rattle.resp_server.proofs.Takings.{all_taken, failed_taken, ignored_taken, more_taken, of_whole, rejected_taken, rest_of, some_taken}
use Rattle.resp_server.proofs.databases.Databases.take.Goals as goal

pub loop-used-preserved : goal.loop-used-preserved
loop-used-preserved g c =
    let l = c.loop-used in
    let some : 0 < c.in-Ok-Some.count = grind arith in
    let within : l.used + c.in-Ok-Some.count ≤ length c.args.piece.now = grind arith in
    let is_open : l.client.closing ≡ false = search rules in
    let few : length l.client.out.items ≤ c.args.held = omega (arith, c.len.ensures.value) in
    more_taken c.args.held c.args.self.now l.self c.take_one.new.self c.args.client.now l.client c.take_one.new.client c.args.piece.now l.used
    c.in-Ok-Some.count
    c.in-Ok-Some.field-0 l.invariant c.in-Ok-Some.field-0-is some within is_open few c.take_one.ensures.same_server c.in-Ok-Some.ensures.taken

pub returns-in-Ok-None-clause-taken : goal.returns-in-Ok-None-clause-taken
returns-in-Ok-None-clause-taken g c =
    let l = c.loop-used in
    let is_open : l.client.closing ≡ false = search rules in
    of_whole c.args.held c.args.self.now c.take_one.new.self c.args.client.now c.take_one.new.client c.args.piece.now
    (all_taken c.args.held c.args.self.now l.self c.take_one.new.self c.args.client.now l.client c.take_one.new.client c.args.piece.now l.used
    c.in-Ok-None.field-0 l.invariant c.in-Ok-None.field-0-is is_open c.in-Ok-None.ensures.taken)

pub returns-in-Ok-clause-taken : goal.returns-in-Ok-clause-taken
returns-in-Ok-clause-taken g c =
    let l = c.loop-used in
    let piece = c.args.piece.now in
    let is_open : l.client.closing ≡ false = search rules in
    let few : length l.client.out.items ≤ c.args.held = omega (arith, c.len.ensures.value) in
    of_whole c.args.held c.args.self.now c.take_one.new.self c.args.client.now c.reject.new.client piece
    (rejected_taken c.args.held c.args.self.now l.self c.take_one.new.self c.args.client.now l.client c.take_one.new.client c.reject.new.client piece l.used
    c.in-Err-Rejected.why l.invariant is_open few c.in-Err-Rejected.ensures.unchanged
    (λ front begun. subst (λ e. OnRejection (Rejects l.self.limits (front ++ rest_of l.used piece)) e) c.in-Err-Rejected.field-0-is
    (c.in-Err-Rejected.ensures.rejected front begun)) c.reject.ensures.closing c.in-Ok.ensures.replied c.reject.ensures.nothing_begun)

pub returns-in-Err-clause-failed : goal.returns-in-Err-clause-failed
returns-in-Err-clause-failed g c =
    let l = c.loop-used in
    failed_taken c.args.held c.args.self.now l.self c.take_one.new.self c.args.client.now l.client c.take_one.new.client c.reject.new.client
    c.args.piece.now l.used
    l.invariant c.in-Err-Rejected.ensures.unchanged c.reject.ensures.closing c.in-Err.ensures.no_reply c.reject.ensures.nothing_begun

pub returns-in-Err-OutOfMemory-clause-failed : goal.returns-in-Err-OutOfMemory-clause-failed
returns-in-Err-OutOfMemory-clause-failed g c =
    let l = c.loop-used in
    failed_taken c.args.held c.args.self.now l.self c.take_one.new.self c.args.client.now l.client c.take_one.new.client c.shut.new.self c.args.piece.now l.used
    l.invariant c.in-Err-OutOfMemory.ensures.unchanged c.shut.ensures.closing c.shut.ensures.same_waiting c.shut.ensures.nothing_begun

pub returns-then-client-clause-taken : goal.returns-then-client-clause-taken
returns-then-client-clause-taken g c =
    let l = c.loop-used in
    of_whole c.args.held c.args.self.now l.self c.args.client.now c.shut-then-client.new.self c.args.piece.now
    (ignored_taken c.args.held c.args.self.now l.self c.args.client.now l.client c.shut-then-client.new.self c.args.piece.now l.used l.invariant
    c.if-client.true
    c.shut-then-client.ensures.closing c.shut-then-client.ensures.same_waiting c.shut-then-client.ensures.nothing_begun)

pub returns-clause-taken : goal.returns-clause-taken
returns-clause-taken g c =
    let l = c.loop-used in
    some_taken c.args.held c.args.self.now l.self c.args.client.now l.client c.args.piece.now l.used l.invariant c.if-client.false
