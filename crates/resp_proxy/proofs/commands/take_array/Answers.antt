use Rattle.std.proofs.Common.{◌≡◌, ◌++◌, false, List, ℕ, [], Some, Err, ap, arith, refl, subst, sym, take}
use Rattle.std.specs.Prelude.{IfOk, IfSome}
use Rattle.resp_frames.specs.Commands.{IsFrameOfWords, TellsWords}
use Rattle.resp_frames.specs.declared.words.Request.TheVariants.{Command}
use Rattle.resp_frames.specs.Framing.{HasBegun, frame_limits, frame_rules}
use Rattle.resp_frames.specs.Requests.{IsRequest}
use Rattle.resp_frames.specs.Texts.{text_of}
use Rattle.resp_proxy.specs.Taking.{Carries, SetsAside, TakesArray, TakesPart}
use Rattle.resp_proxy.specs.Unfinished.{terms_of}
use Rattle.resp_proxy.proofs.Carryings.{array-part}
use Rattle.resp_proxy.proofs.Refusals.{array-refused, frame-refused}
use Rattle.resp_proxy.specs.Reasons.{RefusesArray}
use Rattle.resp_proxy.proofs.Takings.{array-aside}
use Rattle.resp_proxy.proofs.commands.take_array.Goals.{in-Ok-to_vec, in-Err-to_vec}
use Rattle.resp_proxy.proofs.commands.take_array.Goals as goal
use Rattle.resp_proxy.specs.OwnReplies.{Stays}
use Rattle.resp_proxy.specs.Terms.{Terms}
use Rattle.resp_proxy.specs.declared.intake.Intake.{Intake}
use Rattle.resp_value.specs.Rules.{Rules}

-- the terms of an intake with these rules
abbrev with_rules : Rules → Intake → Terms
with_rules rules i = record (terms_of i) { rules = rules }

pub returns-in-Ok-carry_out-clause-taken : goal.returns-in-Ok-carry_out-clause-taken
returns-in-Ok-carry_out-clause-taken c ready front h =
    let i = c.args.intake.now in
    let piece = c.args.piece.now in
    let route = c.args.route in
    let begun = c.next_request.new.begun in
    let command = c.in-Some-Command.command in
    let old = c.args.board.now in
    let new = c.carry_out.new.board in
    let is : c.in-Ok.found ≡ Some (Command command) = grind arith in
    let whole = subst (λ o. IfSome o (λ request. IsRequest (frame_limits i.frames) front piece request × HasBegun (frame_rules i.frames) begun [])) is
    (c.in-Ok.ensures.whole ready front h) in
    let carries = subst (λ rules. (front piece : List ℕ) (found : IsFrameOfWords rules.limits front piece command) →
    Stays (with_rules rules i) route command.words.class found.words.name found.words.arguments →
    Carries (with_rules rules i) route (text_of command.frame) old new) c.in-Ok.ensures.same_rules
    c.in-Ok-carry_out.ensures.carried in
    let stays = subst (λ rules. (words : TellsWords rules.limits (text_of command.frame) command.words) → c.sets_aside.result ≡ false →
    Stays (with_rules rules i) route command.words.class words.name words.arguments) c.in-Ok.ensures.same_rules c.sets_aside.ensures.stays in (
      whole.1,
      subst (λ n. TakesPart (terms_of i) route (front ++ take n piece) old new) (sym c.used-used.ensures)
          (array-part (terms_of i) route front piece command old new whole.0
          (carries front piece whole.0 (stays whole.0.words c.if-sets_aside.false))),
    )

pub returns-in-Err-clause-refused : goal.returns-in-Err-clause-refused
returns-in-Err-clause-refused c ready front h =
    frame-refused (terms_of c.args.intake.now) front c.args.piece.now c.in-Err.error (c.in-Err.ensures.refused ready front h)
    (λ is. c.in-Err.ensures.no_request ready front h (ap Err is))

pub returns-clause-refused : goal.returns-clause-refused
returns-clause-refused c ready front h =
    let i = c.args.intake.now in
    let piece = c.args.piece.now in
    let command = c.in-Some-Command.command in
    let route = c.args.route in
    let error = c.in-Err-carry_out.error in
    let is : c.in-Ok.found ≡ Some (Command command) = grind arith in
    let whole = subst (λ o. IfSome o (λ request. IsRequest (frame_limits i.frames) front piece request × HasBegun (frame_rules i.frames) c.next_request.new.begun []))
    is (c.in-Ok.ensures.whole ready front h) in
    let refused = subst (λ rules. (words : TellsWords rules.limits (text_of command.frame) command.words) →
    Stays (with_rules rules i) route command.words.class words.name words.arguments →
    RefusesArray (with_rules rules i) (text_of command.frame) error) c.in-Ok.ensures.same_rules c.in-Err-carry_out.ensures.refused in
    let stays = subst (λ rules. (words : TellsWords rules.limits (text_of command.frame) command.words) → c.sets_aside.result ≡ false →
    Stays (with_rules rules i) route command.words.class words.name words.arguments) c.in-Ok.ensures.same_rules c.sets_aside.ensures.stays in
    array-refused (terms_of i) front piece command error whole.0 (refused whole.0.words (stays whole.0.words c.if-sets_aside.false))

pub returns-then-sets_aside-clause-taken : goal.returns-then-sets_aside-clause-taken
returns-then-sets_aside-clause-taken c ready front h =
    let i = c.args.intake.now in
    let piece = c.args.piece.now in
    let route = c.args.route in
    let begun = c.next_request.new.begun in
    let command = c.in-Some-Command.command in
    let m = c.args.board.now in
    let is : c.in-Ok.found ≡ Some (Command command) = grind arith in
    let whole = subst (λ o. IfSome o (λ request. IsRequest (frame_limits i.frames) front piece request × HasBegun (frame_rules i.frames) begun [])) is
    (c.in-Ok.ensures.whole ready front h) in
    elim c.match-to_vec.branch [
      | in-Ok-to_vec w ↦ subst (λ r. IfOk r (λ part. TakesArray (terms_of i) route front piece begun part m m)) (sym w.result-is) (
        whole.1,
        subst (λ n. SetsAside (terms_of i) (front ++ take n piece) w.in-Ok-to_vec.text.items m m) (sym c.used-used.ensures)
            (array-aside (terms_of i) front piece w.in-Ok-to_vec.text.items command m whole.0 (c.if-sets_aside.ensures.needed refl) (grind arith)),
      )
      | in-Err-to_vec w ↦ subst (λ r. IfOk r (λ part. TakesArray (terms_of i) route front piece begun part m m)) (sym w.result-is) tt
    ]
