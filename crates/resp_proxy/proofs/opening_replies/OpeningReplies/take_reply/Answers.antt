use Rattle.std.proofs.Common.{◌≡◌, ◌∙◌, ◌⊎◌, ◌++◌, [], true, Some, Err, ap, arith, refl, subst, sym, take}
use Rattle.resp_frames.specs.declared.begun.Begun.{Begun}
use Rattle.resp_frames.specs.declared.frames.Frames.{Frames}
use Rattle.resp_frames.specs.Framing.{HasBegun, IsReady, frame_rules}
use Rattle.resp_proxy.proofs.OpeningReplies.{accepted-one, found-frame, refused-by, refused-frame}
use Rattle.resp_proxy.specs.declared.opening_replies.OpeningReplies.{OpeningReplies}
use Rattle.resp_proxy.specs.OpeningReplies.{HasReplies, RefusesOpening, RejectsReply, accepts, expected_next, opening_terms}
use Rattle.resp_proxy.proofs.opening_replies.OpeningReplies.take_reply.Goals as goal

abbrev mid : OpeningReplies → Frames → Begun → OpeningReplies
mid o frames begun = record o { frames = frames; begun = begun }

pub returns-in-Err-clause-refused : goal.returns-in-Err-clause-refused
returns-in-Err-clause-refused c bytes h =
    let o = c.args.self.now in
    subst (RefusesOpening (opening_terms o) (bytes ++ c.args.piece.now)) (sym c.opening_error.ensures)
    (refused-frame o bytes c.args.piece.now c.in-Err.error h (c.in-Err.ensures.refused h.ready h.after h.begun)
    (λ is. c.in-Err.ensures.any_value (ap Err is)))

pub returns-in-Err-judge-clause-refused : goal.returns-in-Err-judge-clause-refused
returns-in-Err-judge-clause-refused c bytes h =
    let rules = frame_rules c.args.self.now.frames in
    let is : c.in-Ok.found ≡ Some c.in-Some.frame = grind arith in
    let f = found-frame rules c.next.new.begun h.after c.args.piece.now c.in-Ok.found c.in-Some.frame is (c.in-Ok.ensures.whole h.ready h.after h.begun) in
    refused-by c.args.self.now (mid c.args.self.now c.next.new.self c.next.new.begun) bytes c.args.piece.now c.in-Some.frame c.in-Err-judge.error h f.0 refl
    (subst (λ text. RejectsReply (mid c.args.self.now c.next.new.self c.next.new.begun) text c.in-Err-judge.error) c.text.ensures c.in-Err-judge.ensures.rejected)

pub returns-clause-accepted : goal.returns-clause-accepted
returns-clause-accepted c bytes h =
    let rules = frame_rules c.args.self.now.frames in
    let is : c.in-Ok.found ≡ Some c.in-Some.frame = grind arith in
    let f = found-frame rules c.next.new.begun h.after c.args.piece.now c.in-Ok.found c.in-Some.frame is (c.in-Ok.ensures.whole h.ready h.after h.begun) in
    let o = c.args.self.now in
    let new = c.judge.new.self in
    let judged = c.in_default-judge.ensures.accepted in
    subst (λ n. HasReplies new (bytes ++ take n c.args.piece.now)) (sym c.used.ensures)
    (accepted-one o new bytes c.args.piece.now c.in-Some.frame h f.0
    (c.judge.ensures.same_terms ∙ ap (λ rules. record { rules = rules; count = o.count; last = o.last }) c.next.ensures.same_rules)
    (subst IsReady (sym judged.frames) (c.next.ensures.ready h.ready)) (subst (λ b. HasBegun rules b []) (sym judged.begun) f.1)
    (subst (λ text. accepts (expected_next o) text ≡ true) c.text.ensures judged.accepted) judged.missing
    (subst (λ text. (new.hello.items ≡ o.hello.items) ⊎ (new.hello.items ≡ text)) c.text.ensures judged.hello))
