use Rattle.std.proofs.Common.{◌≡◌, ◌<◌, ◌++◌, arith, drop, length, subst, take}
use Rattle.resp_proxy.proofs.OpeningReplies.{refused-rest, rest-refused, some-left, takes-one}
use Rattle.resp_proxy.proofs.Takings.{whole-rest}
use Rattle.resp_proxy.specs.declared.opening_replies.OpeningError.TheVariants as error
use Rattle.resp_proxy.specs.OpeningReplies.{RefusesOpening, opening_terms}
use Rattle.resp_proxy.proofs.opening_replies.OpeningReplies.take.Goals as goal

pub returns-then-are_complete-clause-refused : goal.returns-then-are_complete-clause-refused
returns-then-are_complete-clause-refused c bytes h =
    let l = c.loop-used in
    let used = l.used in
    let piece = c.args.piece.now in
    let none : l.self.missing ≡ 0 = grind arith in
    let some : used < length piece = grind arith in
    rest-refused c.args.self.now l.self piece bytes used error.Rejected l.invariant
    (refused-rest l.self (bytes ++ take used piece) (drop used piece) (l.invariant.come bytes h) none (some-left used piece some))

pub returns-in-Err-clause-refused : goal.returns-in-Err-clause-refused
returns-in-Err-clause-refused c bytes h =
    let l = c.loop-used in
    let used = l.used in
    let piece = c.args.piece.now in
    let front = bytes ++ take used piece in
    rest-refused c.args.self.now l.self piece bytes used c.in-Err.error l.invariant
    (subst (λ rest. RefusesOpening (opening_terms l.self) (front ++ rest) c.in-Err.error) (whole-rest used piece)
    (c.in-Err.ensures.refused front (l.invariant.come bytes h)))

pub loop-used-preserved : goal.loop-used-preserved
loop-used-preserved c =
    let l = c.loop-used in
    takes-one c.args.self.now l.self c.take_reply.new.self c.args.piece.now l.used c.in-Some.count c.in-Ok.found l.invariant (grind arith) (grind arith)
    c.take_reply.ensures.same_terms c.in-Ok.ensures.accepted
