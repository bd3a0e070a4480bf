-- Why a file is not read on after some bytes of a block.
use Rattle.std.proofs.Common.{◌≡◌, ◌⊎◌, ◌∙◌, ℕ, ◌<◌, ◌≤◌, Bool, true, false, List, [], ◌∷◌, ◌++◌, None, Some, Result, Ok, Err, ap, append-nil, arith, cond, eqb, inl, inr, length, refl, subst, sym}
use Rattle.std.specs.Prelude.{if◌then◌else◌, take, OnOk}
use Rattle.std.proofs.lemmas.Bool.{eq-eqb, eqb-true, le-ltb, lt-ltb}
use Rattle.resp_capture.specs.Blocks.{size_of}
use Rattle.resp_capture.specs.Reading.{AreOfBlock, HasAllBytes, InterfacesAfterBlock, StopsAt, begun_bytes, fault_of, fault_of_block, fault_of_sized}
use Rattle.resp_capture.specs.declared.block.Format.{Format}
use Rattle.resp_capture.specs.declared.error.Reason.{Reason}
use Rattle.resp_capture.specs.declared.error.Reason.TheVariants.{OutOfMemory, WrongLength}
use Rattle.resp_capture.specs.Frames.{IsDescribed}
use Rattle.resp_capture.specs.Numbers.{number32}
use Rattle.resp_capture.specs.declared.capture.Capture.{Capture}
use Rattle.resp_capture.specs.declared.interface.Interface.{Interface}
use Rattle.resp_capture.specs.declared.number.ByteOrder.{ByteOrder}
use Rattle.resp_capture.specs.declared.number.ByteOrder.TheVariants.{Big}

-- the size of the block is wrong
pub wrong_size : (format : Format) (bytes : List ℕ) (reason : Reason) → Err reason ≡ size_of format bytes → fault_of format bytes ≡ Some reason
wrong_size format bytes reason is = ap (λ (r : Result ℕ Reason). fault_of_sized r format bytes) (sym is)

-- the block has fewer bytes than were read
pub too_short : (format : Format) (bytes : List ℕ) (size : ℕ) → Ok size ≡ size_of format bytes → size < length bytes →
    fault_of format bytes ≡ Some WrongLength
too_short format bytes size is less = ap (λ (r : Result ℕ Reason). fault_of_sized r format bytes) (sym is) ∙
    ap (λ (b : Bool). if b then Some WrongLength else (if eqb size (length bytes) then fault_of_block format bytes else None)) (lt-ltb size (length bytes) less)

-- the block is whole
pub whole_fault : (format : Format) (bytes : List ℕ) (size : ℕ) → Ok size ≡ size_of format bytes → size ≡ length bytes →
    fault_of format bytes ≡ fault_of_block format bytes
whole_fault format bytes size is same = ap (λ (r : Result ℕ Reason). fault_of_sized r format bytes) (sym is) ∙
    ap (λ (b : Bool). if b then Some WrongLength else (if eqb size (length bytes) then fault_of_block format bytes else None))
    (le-ltb size (length bytes) (omega (arith, same))) ∙
    ap (λ (b : Bool). if b then fault_of_block format bytes else None) (eq-eqb size (length bytes) same)

-- ---- what is left when the file is not read on

-- what is true of the bytes of a block that were read before is true of those of the block that is read next
still_begun : (capture : Capture) → capture.is_whole ≡ false → capture.held.items ≡ begun_bytes capture
still_begun capture begun = sym (ap (λ (b : Bool). cond b [] capture.held.items) begun)

-- bytes of the block were read, and then it has a fault or memory is out
pub stops : (old new : Capture) (piece : List ℕ) (count : ℕ) (reason : Reason) → old.is_whole ≡ false → count ≤ length piece →
    new.held.items ≡ old.held.items ++ take count piece → (count ≡ 0) ⊎ AreOfBlock old.format old.held.items count →
    new.is_whole ≡ false → new.format ≡ old.format → new.interfaces.items ≡ old.interfaces.items →
    (reason ≡ OutOfMemory) ⊎ (fault_of old.format new.held.items ≡ Some reason) ⊎ HasAllBytes old.format old.held.items reason →
    StopsAt old new piece reason
stops old new piece count reason begun within bytes of_block not_whole same_format same_interfaces why = record {
  count = count;
  within = within;
  bytes = bytes ∙ ap (λ (held : List ℕ). held ++ take count piece) (still_begun old begun);
  of_block = subst (λ (held : List ℕ). (count ≡ 0) ⊎ AreOfBlock old.format held count) (still_begun old begun) of_block;
  not_whole = not_whole;
  same_format = same_format;
  same_interfaces = same_interfaces;
  why = elim why [
    | inl memory ↦ inl memory
    | inr (inl fault) ↦ inr (inl fault)
    | inr (inr all) ↦ inr (inr (subst (λ (held : List ℕ). HasAllBytes old.format held reason) (still_begun old begun) all))
  ];
}

-- no byte was read
pub nothing_read : (old new : Capture) (piece : List ℕ) (reason : Reason) → old.is_whole ≡ false → new.held.items ≡ old.held.items →
    new.is_whole ≡ false → new.format ≡ old.format → new.interfaces.items ≡ old.interfaces.items →
    (reason ≡ OutOfMemory) ⊎ (fault_of old.format new.held.items ≡ Some reason) ⊎ HasAllBytes old.format old.held.items reason →
    StopsAt old new piece reason
nothing_read old new piece reason begun same =
    stops old new piece 0 reason begun (omega arith) (same ∙ sym (append-nil old.held.items)) (inl refl)

-- ---- what a block says of interfaces

-- the block begins a section
pub section_interfaces : (order : ByteOrder) (bytes : List ℕ) (old new : List Interface) → number32 Big 0 bytes ≡ 168627466 → new ≡ [] →
    InterfacesAfterBlock order bytes old new
section_interfaces order bytes old new is none = record {
  section = λ s. none;
  described = λ other. absurd (no_section (sym (eq-eqb (number32 Big 0 bytes) 168627466 is) ∙ other));
  others = λ other. absurd (no_section (sym (eq-eqb (number32 Big 0 bytes) 168627466 is) ∙ other));
}
  where
    no_section : ◌≡◌ {A = Bool} true false → ⊥
    no_section e = cc

-- the block describes an interface
pub described_interface : {T : Type 0} (result : Result T Reason) (order : ByteOrder) (bytes : List ℕ) (old new : List Interface) (interface : Interface) →
    (number32 Big 0 bytes ≡ 168627466 → ⊥) → number32 order 0 bytes ≡ 1 → IsDescribed order bytes interface →
    OnOk result (new ≡ old ++ interface ∷ []) → OnOk result (InterfacesAfterBlock order bytes old new)
described_interface (Err reason) order bytes old new interface other kind is added = tt
described_interface (Ok x) order bytes old new interface other kind is added = record {
  section = λ s. absurd (other (eqb-true (number32 Big 0 bytes) 168627466 s));
  described = λ s k. (interface, is, added);
  others = λ s not. absurd (not kind);
}

-- the block says nothing of interfaces
pub same_interfaces : (order : ByteOrder) (bytes : List ℕ) (old new : List Interface) → (number32 Big 0 bytes ≡ 168627466 → ⊥) →
    (number32 order 0 bytes ≡ 1 → ⊥) → new ≡ old → InterfacesAfterBlock order bytes old new
same_interfaces order bytes old new other kind same = record {
  section = λ s. absurd (other (eqb-true (number32 Big 0 bytes) 168627466 s));
  described = λ s k. absurd (kind k);
  others = λ s not. same;
}
