use Rattle.std.proofs.Common.{◌+◌, ◌-◌, ap, arith, refl, drop, length, length-drop, subst}
use Rattle.std.proofs.lemmas.Grind.{common_steps}
use Rattle.resp_scan.proofs.CallClauses.Calls.{is_text}
use Rattle.resp_scan.proofs.Wholes.HeadNumbers.{holds_at_none}
use Rattle.resp_scan.proofs.Wholes.WordFronts.{one_head}
use Rattle.resp_frames.specs.KnownHeads.{IsDecidedByWords}
use Rattle.resp_frames.proofs.KnownHeads.{head_is_known, head_of_bytes, name_spelled, same_head, text_after_head, unknown_is_decided}
use Rattle.resp_frames.proofs.known_head.KnownHead.of.Goals as goal
use Rattle.resp_frames.proofs.known_head.KnownHead.of.Goals.{then-array-eq0-via-then-array-eq0, then-array-eq0-via-else-array-eq0+then-array-gt-ARGUMENTS, then-length-lt-WORD-via-then-length-lt-WORD, then-length-lt-WORD-via-else-length-lt-WORD+then-length-gt-MOST}

pub invariant_of-result : goal.invariant_of-result
invariant_of-result c =
    let piece = c.args.piece.now in
    let rest = c.in_ok-name.name.rest.now in (
      grind (arith, common_steps),
      grind (arith, common_steps),
      grind (arith, common_steps),
      head_is_known c.args.limits.now piece c.in_ok-array.array.rest.now c.in_ok-name.name.content.now rest c.in_ok-array.array.number (length piece - length rest)
          c.in_ok-class.class c.in_ok-place.place c.copy_from_slice.new.self _ c.in_ok-array.ensures.begins c.in_ok-name.ensures.begins (grind (arith, common_steps)) refl
          (grind (arith, common_steps)) c.copy_from_slice.ensures.after c.in_ok-class.ensures.class c.in_ok-place.ensures.found,
    )

pub returns-in_err-array-clause-none : goal.returns-in_err-array-clause-none
returns-in_err-array-clause-none c = holds_at_none c.from_residual.result
    (λ n arguments name least most within few h.
    let piece = c.args.piece.now in
    let bounds = c.are_in_range.ensures in
    let head = head_of_bytes c.args.limits.now bounds piece piece name n arguments h refl within most in
    let items_least = bounds.items_in_range.0 in
    absurd (c.in_err-array.ensures.none (arguments + 1) head.body (omega (arith, few, items_least)) head.head))

pub returns-then-array-eq0-clause-none : goal.returns-then-array-eq0-clause-none
returns-then-array-eq0-clause-none c = λ n arguments name least most within few h.
    let piece = c.args.piece.now in
    let head = head_of_bytes c.args.limits.now c.are_in_range.ensures piece piece name n arguments h refl within most in
    let array = c.in_ok-array.array in
    let same = (one_head piece 42 array.number (arguments + 1) array.rest.now head.body (omega arith) c.in_ok-array.ensures.begins head.head).0 in
    absurd (elim c.then-array-eq0.branch [
      | then-array-eq0-via-then-array-eq0 w ↦ omega (arith, same, w.if-array-eq0.true)
      | then-array-eq0-via-else-array-eq0+then-array-gt-ARGUMENTS w ↦ omega (arith, same, few, w.if-array-gt-ARGUMENTS.true)
    ])

pub returns-in_err-name-clause-none : goal.returns-in_err-name-clause-none
returns-in_err-name-clause-none c = holds_at_none c.from_residual-in_err-name.result
    (λ n arguments name least most within few h.
    let limits = c.args.limits.now in
    let piece = c.args.piece.now in
    let bounds = c.are_in_range.ensures in
    let head = head_of_bytes limits bounds piece piece name n arguments h refl within most in
    let array = c.in_ok-array.array in
    absurd (c.in_err-name.ensures.none name (drop n piece)
    (name_spelled limits bounds piece array.rest.now arguments array.number name (drop n piece) head c.in_ok-array.ensures.begins
    (text_after_head piece 42 array.number array.rest.now c.in_ok-array.ensures.begins (is_text piece (λ i. (c.type_inv.piece i).fits))))))

pub returns-then-length-lt-WORD-clause-none : goal.returns-then-length-lt-WORD-clause-none
returns-then-length-lt-WORD-clause-none c = λ n arguments name least most within few h.
    let limits = c.args.limits.now in
    let piece = c.args.piece.now in
    let head = head_of_bytes limits c.are_in_range.ensures piece piece name n arguments h refl within most in
    let array = c.in_ok-array.array in
    let read = c.in_ok-name.name in
    let same = (same_head limits piece array.rest.now read.content.now read.rest.now arguments array.number name (drop n piece) head
    c.in_ok-array.ensures.begins c.in_ok-name.ensures.begins).2 in
    let size = ap length same in
    let left = length-drop n piece in
    absurd (elim c.then-length-lt-WORD.branch [
      | then-length-lt-WORD-via-then-length-lt-WORD w ↦ omega (arith, size, left, least, within, w.if-length-lt-WORD.true)
      | then-length-lt-WORD-via-else-length-lt-WORD+then-length-gt-MOST w ↦ omega (arith, size, left, most, within, w.if-length-gt-MOST.true)
    ])

pub returns-in_err-class-clause-none : goal.returns-in_err-class-clause-none
returns-in_err-class-clause-none c = holds_at_none c.from_residual-in_err-class.result
    (λ n arguments name least most within few h.
    let limits = c.args.limits.now in
    let piece = c.args.piece.now in
    let head = head_of_bytes limits c.are_in_range.ensures piece piece name n arguments h refl within most in
    let array = c.in_ok-array.array in
    let read = c.in_ok-name.name in
    let same = (same_head limits piece array.rest.now read.content.now read.rest.now arguments array.number name (drop n piece) head
    c.in_ok-array.ensures.begins c.in_ok-name.ensures.begins).1 in
    subst IsDecidedByWords same c.in_err-class.ensures.none)

pub returns-in_err-place-clause-none : goal.returns-in_err-place-clause-none
returns-in_err-place-clause-none c = holds_at_none c.from_residual-in_err-place.result
    (λ n arguments name least most within few h.
    let limits = c.args.limits.now in
    let piece = c.args.piece.now in
    let head = head_of_bytes limits c.are_in_range.ensures piece piece name n arguments h refl within most in
    let array = c.in_ok-array.array in
    let read = c.in_ok-name.name in
    let same = (same_head limits piece array.rest.now read.content.now read.rest.now arguments array.number name (drop n piece) head
    c.in_ok-array.ensures.begins c.in_ok-name.ensures.begins).1 in
    subst IsDecidedByWords same (unknown_is_decided c.in_ok-name.name.content.now c.in_err-place.ensures.unknown))
