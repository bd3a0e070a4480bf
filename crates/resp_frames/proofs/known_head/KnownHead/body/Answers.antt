use Rattle.std.proofs.Common.{◌≡◌, ◌∙◌, ◌-◌, arith, length, length-drop, subst, sym, take, drop, true≢false}
use Rattle.std.proofs.lemmas.Grind.{common_steps}
use Rattle.std.proofs.lemmas.List.{take_all}
use Rattle.resp_frames.specs.KnownHeads.{BeginsWithHeadBytes, HasBody}
use Rattle.resp_frames.proofs.KnownHeads.{same_in_three, same_in_two, same_part}
use Rattle.resp_frames.proofs.known_head.KnownHead.body.Goals as goal
use Rattle.resp_frames.proofs.known_head.KnownHead.body.Goals.{else-length-via-then-length+else-not-are_same-3, else-length-via-else-length, then-piece-length-via-then-piece-length, then-piece-length-via-else-piece-length+then-not-are_same}

pub returns-clause-body : goal.returns-clause-body
returns-clause-body c =
    let n = c.self.inside.length in
    let piece = c.args.piece.now in
    let bytes = c.self.inside.bytes in
    let last = c.are_same-2.ensures.0 c.if-not-are_same-2.false in
    let same : take n piece ≡ take n bytes = elim c.else-length.branch [
      | else-length-via-then-length+else-not-are_same-3 w ↦ same_in_three n (n - 8) piece bytes (grind (arith, common_steps)) (grind (arith, common_steps)) (c.are_same.ensures.0 c.if-not-are_same.false) (w.are_same-then-length.ensures.0 w.if-not-are_same-3.false) last
      | else-length-via-else-length w ↦ same_in_two n (n - 8) piece bytes (grind (arith, common_steps)) (grind (arith, common_steps)) (c.are_same.ensures.0 c.if-not-are_same.false) last
    ] in
    subst (λ head. HasBody head piece (take (length piece - n) (drop n piece))) c.self.view_is
    (record {
      begins = record { within = grind (arith, common_steps); same = same };
      after = take_all (length piece - n) (drop n piece) (grind (arith, common_steps, length-drop));
    })

pub returns-then-piece-length-clause-none : goal.returns-then-piece-length-clause-none
returns-then-piece-length-clause-none c =
    let n = c.self.inside.length in
    let piece = c.args.piece.now in
    let bytes = c.self.inside.bytes in
    let (least, most, few, known) = c.self.invariant in
    subst (λ head. BeginsWithHeadBytes head piece → ⊥) c.self.view_is
    (λ begins.
    elim c.then-piece-length.branch [
      | then-piece-length-via-then-piece-length w ↦ let within = begins.within in grind (arith, common_steps)
      | then-piece-length-via-else-piece-length+then-not-are_same w ↦
          true≢false (sym (w.are_same.ensures.1 (same_part 0 n 8 piece bytes (omega (arith, least)) begins.same)) ∙ w.if-not-are_same.true)
    ])

pub returns-then-not-are_same-2-clause-none : goal.returns-then-not-are_same-2-clause-none
returns-then-not-are_same-2-clause-none c =
    let n = c.self.inside.length in
    let piece = c.args.piece.now in
    let (least, most, few, known) = c.self.invariant in
    subst (λ head. BeginsWithHeadBytes head piece → ⊥) c.self.view_is
    (λ begins. true≢false (sym (c.are_same-2.ensures.1 (same_part (n - 8) n 8 piece c.self.inside.bytes (omega (arith, least)) begins.same)) ∙ c.if-not-are_same-2.true))

pub returns-then-not-are_same-3-clause-none : goal.returns-then-not-are_same-3-clause-none
returns-then-not-are_same-3-clause-none c =
    let n = c.self.inside.length in
    let piece = c.args.piece.now in
    subst (λ head. BeginsWithHeadBytes head piece → ⊥) c.self.view_is
    (λ begins.
    true≢false (sym (c.are_same-then-length.ensures.1 (same_part 8 n 8 piece c.self.inside.bytes (grind (arith, common_steps)) begins.same)) ∙ c.if-not-are_same-3.true))
