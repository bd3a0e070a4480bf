use Rattle.std.proofs.Common.{◌∙◌, ◌-◌, ap, arith, length, length-drop, length-take, refl, subst, sym}
use Rattle.std.proofs.lemmas.Grind.{common_steps}
use Rattle.resp_scan.specs.Whole.{BeginsWithWords}
use Rattle.resp_scan.proofs.CallClauses.Calls.{is_text}
use Rattle.resp_scan.proofs.Wholes.Commands.{rest_is_shorter}
use Rattle.resp_scan.proofs.Wholes.HeadNumbers.{holds_at_none}
use Rattle.resp_scan.proofs.Wholes.ManyWords.{same_words}
use Rattle.resp_frames.specs.KnownHeads.{HasBody}
use Rattle.resp_frames.proofs.Ends.{whole_command}
use Rattle.resp_frames.proofs.KnownHeads.{head_begins, words_after_head}
use Rattle.resp_frames.proofs.known_head.KnownHead.command.Goals as goal

pub overflow_sub-used : goal.overflow_sub-used
overflow_sub-used c =
    let (words, as_many, begins) = c.in_ok-rest.ensures.begins in
    let shorter = rest_is_shorter c.args.limits.now.length c.in_ok-body.body.now words c.in_ok-rest.rest.now begins in
    let has = subst (λ head. HasBody head c.args.piece.now c.in_ok-body.body.now) (sym c.self.view_is) c.in_ok-body.ensures.body in
    let size = ap length has.after in
    grind (arith, common_steps, length-drop)

pub returns-clause-command : goal.returns-clause-command
returns-clause-command c =
    let limits = c.args.limits.now in
    let piece = c.args.piece.now in
    let rest = c.in_ok-rest.rest.now in
    let (words, as_many, others) = c.in_ok-rest.ensures.begins in
    let shorter = rest_is_shorter limits.length c.in_ok-body.body.now words rest others in
    let has = subst (λ head. HasBody head piece c.in_ok-body.body.now) (sym c.self.view_is) c.in_ok-body.ensures.body in
    let (least, most, few, known) = c.self.invariant in
    let size = ap length has.after in
    let (name, begins, class, at) =
    head_begins limits c.are_in_range.ensures piece c.self.inside.bytes c.self.inside.length c.self.inside.arguments c.self.inside.class c.self.inside.place known
    (is_text piece (λ i. (c.type_inv.piece i).fits)) has.begins.within most few has.begins.same words rest as_many
    (subst (λ text. BeginsWithWords limits.length text words rest) has.after others) (grind (arith, common_steps)) in
    whole_command c.no_spelling_is_empty.ensures limits piece _ (length piece - length rest) name words rest begins refl
    (grind (arith, common_steps, length-take)) (grind (arith, common_steps, length-drop)) (record { count = sym as_many; class = class words; place = at })

pub returns-in_err-rest-clause-none : goal.returns-in_err-rest-clause-none
returns-in_err-rest-clause-none c = holds_at_none c.from_residual-in_err-rest.result
    (λ name arguments rest begins_head begins.
    let limits = c.args.limits.now in
    let piece = c.args.piece.now in
    let head = c.self.inside in
    let has = subst (λ head. HasBody head piece c.in_ok-body.body.now) (sym c.self.view_is) c.in_ok-body.ensures.body in
    let (least, most, few, known) = c.self.invariant in
    let (as_many, words, small) =
    words_after_head limits c.are_in_range.ensures piece head.bytes head.length head.arguments head.class head.place known has.begins.within most has.begins.same name
    arguments rest begins in
    c.in_err-rest.ensures.none arguments rest as_many (subst (λ text. BeginsWithWords limits.length text arguments rest) (sym has.after) words)
    (let size = ap length has.after in let left = length-drop head.length piece in omega (arith, size, left, small)))

pub returns-then-used-total-clause-none : goal.returns-then-used-total-clause-none
returns-then-used-total-clause-none c name arguments rest begins_head begins =
    let limits = c.args.limits.now in
    let piece = c.args.piece.now in
    let head = c.self.inside in
    let body = c.in_ok-body.body.now in
    let has = subst (λ head. HasBody head piece body) (sym c.self.view_is) c.in_ok-body.ensures.body in
    let (least, most, few, known) = c.self.invariant in
    let (as_many, words, small) =
    words_after_head limits c.are_in_range.ensures piece head.bytes head.length head.arguments head.class head.place known has.begins.within most has.begins.same name
    arguments rest begins in
    let (found, many, others) = c.in_ok-rest.ensures.begins in
    let same = (same_words limits.length body arguments found rest c.in_ok-rest.rest.now (as_many ∙ sym many)
    (subst (λ text. BeginsWithWords limits.length text arguments rest) (sym has.after) words) others).1 in
    let long = ap length same in
    grind (arith, common_steps)
