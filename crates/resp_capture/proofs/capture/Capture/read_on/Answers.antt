use Rattle.std.proofs.Common.{rules, ◌≡◌, ◌∙◌, ◌++◌, ◌+◌, ◌≤◌, ◌⊎◌, List, ℕ, arith, inl, inr, refl, sym, ap, length, Ok}
use Rattle.std.specs.Prelude.{take}
use Rattle.std.proofs.lemmas.Result.{err_from_is_err_and}
use Rattle.resp_capture.specs.Blocks.{size_of}
use Rattle.resp_capture.specs.Reading.{AreOfBlock, fault_of, fault_of_block}
use Rattle.resp_capture.specs.declared.block.Format.{Format}
use Rattle.resp_capture.proofs.ReadingLemmas.{nothing_read, stops, too_short, whole_fault}
use Rattle.resp_capture.proofs.capture.Capture.read_on.Goals as goal

pub returns-then-wanted-len-clause-fault : goal.returns-then-wanted-len-clause-fault
returns-then-wanted-len-clause-fault c =
    let said : Ok c.in_ok-wanted.wanted ≡ size_of c.args.self.now.format c.args.self.now.held.items = search rules in
    nothing_read c.args.self.now _ c.args.piece.now _ c.requires refl c.requires refl refl
    (inr (inr (record { size = c.in_ok-wanted.wanted; said = sym said; all = omega arith; reason_is = refl })))

pub returns-in_err-hold-clause-fault : goal.returns-in_err-hold-clause-fault
returns-in_err-hold-clause-fault c =
    let hold = c.in_err-hold.ensures in
    let p = err_from_is_err_and c.from_residual-in_err-hold.result c.from_residual-in_err-hold.ensures.1 in
    rw (p.1, p.2)
    (nothing_read c.args.self.now c.hold.new.self c.args.piece.now c.in_err-hold.field-0.0 c.requires hold.refused (hold.not_whole ∙ c.requires)
    hold.same_format hold.same_interfaces (inl hold.memory))

-- the bytes that are read are within the size that the bytes before them say
all_of_block : (format : Format) (bytes : List ℕ) (count wanted : ℕ) → Ok wanted ≡ size_of format bytes → length bytes + count ≤ wanted →
    (count ≡ 0) ⊎ AreOfBlock format bytes count
all_of_block format bytes count wanted said within = inr (record { size = wanted; said = sym said; within = within })

pub returns-then-size-len-clause-fault : goal.returns-then-size-len-clause-fault
returns-then-size-len-clause-fault c =
    let hold = c.in_ok-hold.ensures in
    let bytes : c.hold.new.self.held.items ≡ c.args.self.now.held.items ++ take c.min-count.result c.args.piece.now = search rules in
    stops c.args.self.now _ c.args.piece.now c.min-count.result _ c.requires (search (rules, arith)) bytes
    (all_of_block c.args.self.now.format c.args.self.now.held.items c.min-count.result c.in_ok-wanted.wanted (search rules) (search (rules, arith))) (hold.not_whole ∙ c.requires) hold.same_format hold.same_interfaces
    (inr (inl (too_short c.args.self.now.format c.hold.new.self.held.items c.in_ok-size.size (search rules) (omega arith))))

pub returns-in_err-end_block-clause-fault : goal.returns-in_err-end_block-clause-fault
returns-in_err-end_block-clause-fault c =
    let old = c.args.self.now in
    let read = c.hold.new.self in
    let new = c.end_block.new.self in
    let hold = c.in_ok-hold.ensures in
    let ended = c.in_err-end_block.ensures in
    let bytes : read.held.items ≡ old.held.items ++ take c.min-count.result c.args.piece.now = search rules in
    let said : Ok c.in_ok-size.size ≡ size_of old.format read.held.items = search rules in
    let same : c.in_ok-size.size ≡ length read.held.items = search (rules, arith) in
    let whole = whole_fault old.format read.held.items c.in_ok-size.size said same in
    let p = err_from_is_err_and c.from_residual-in_err-end_block.result c.from_residual-in_err-end_block.ensures.1 in
    rw (p.1, p.2)
    (stops old new c.args.piece.now c.min-count.result c.in_err-end_block.field-0.0 c.requires (search (rules, arith)) (ended.held ∙ bytes)
    (all_of_block old.format old.held.items c.min-count.result c.in_ok-wanted.wanted (search rules) (search (rules, arith)))
    (ended.refused.0 ∙ hold.not_whole ∙ c.requires) (ended.refused.1 ∙ hold.same_format) (ended.refused.2 ∙ hold.same_interfaces)
    (elim ended.fault [
      | inl memory ↦ inl memory
      | inr fault ↦ inr (inl (ap (fault_of old.format) ended.held ∙ whole ∙ ap (λ f. fault_of_block f read.held.items) (sym hold.same_format) ∙ fault))
    ]))
