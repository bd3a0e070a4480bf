-- What a step takes of a piece.
use Rattle.std.proofs.Common.{◌≡◌, ℕ, ◌+◌, ◌^◌, ◌<◌, ◌≤◌, true, List, [], ◌∷◌, length, sym, subst, arith}
use Rattle.resp_scan.specs.declared.frame.Frame.{Frame}
use Rattle.resp_scan.specs.declared.machine.Machine.{Machine}
use Rattle.resp_scan.specs.declared.machine.Advance.{Advance}
use Rattle.resp_scan.specs.declared.machine.EventTag.{EventTag}
use Rattle.resp_scan.specs.declared.machine.EventTag.TheVariants as tag
use Rattle.resp_scan.specs.Machine.Tokens.{Token, Place, Move, Go, Byte, Give, Refuse, AtEnd, AtBigDigit, AtTextEnd, Dead}
use Rattle.resp_scan.specs.Machine.Moves.{is_digit, next}
use Rattle.resp_scan.specs.Machine.Scan.{Out, More, Gave, Part, Whole, Bad, and_more, content, answer, scan, out_at_end, out_from_token, out_from}
use Rattle.resp_scan.specs.Machine.Fields.{place_of, out_of, out_by}
use Rattle.resp_scan.specs.Machine.Sound.{IsSoundBy, IsSound}
use Rattle.resp_scan.proofs.Soundness.Kept.{IsOut, is_advanced}

-- an answer takes no more than the piece, all of it where it says that there is no more, and a part isn't empty
abbrev pub Takes : ℕ → Out → Type 0
Takes l (More n s) = n ≡ l
Takes l (Gave n e s) = n ≤ l
Takes l (Part k n s) = (k < n) × (n ≤ l)
Takes l (Whole s) = Unit {0}
Takes l (Bad n c s) = n ≤ l

abbrev IsWithin : ℕ → ℕ → ℕ × Place → Type 0
IsWithin i l r = (i ≤ r.0) × (r.0 ≤ l)

content_move : (v : Move) (i : ℕ) (s : Place) (b : ℕ) (bs : List ℕ) → ((t : Place) → IsWithin (i + 1) ((i + 1) + length bs) (content (i + 1) t bs)) →
    IsWithin i (i + length (b ∷ bs)) (and_more v (i, s) (λ t. content (i + 1) t bs))
content_move (Byte t) i s b bs h = let w = h t in (omega (arith, w.0), omega (arith, w.1))
content_move _ i s b bs h = (omega arith, omega arith)

content_within : (i : ℕ) (s : Place) (p : List ℕ) → IsWithin i (i + length p) (content i s p)
content_within i s [] = (omega arith, omega arith)
content_within i s (b ∷ bs) = content_move (next s (i + 1) b) i s b bs (λ t. content_within (i + 1) t bs)

takes_move : (v : Move) (i : ℕ) (s : Place) (b : ℕ) (bs : List ℕ) → ((t : Place) → Takes ((i + 1) + length bs) (scan (i + 1) t bs)) →
    Takes (i + length (b ∷ bs)) (answer v i s (λ t. scan (i + 1) t bs) (λ t. content (i + 1) t bs))
takes_move (Go t) i s b bs h = let e : (i + 1) + length bs ≡ i + length (b ∷ bs) = omega arith in subst (λ l. Takes l (scan (i + 1) t bs)) e (h t)
takes_move (Byte t) i s b bs h = let w = content_within (i + 1) t bs in (omega (arith, w.0), omega (arith, w.1))
takes_move (Give e t) i s b bs h = omega arith
takes_move (Refuse c) i s b bs h = omega arith

takes_by : (i : ℕ) (s : Place) (p : List ℕ) → Takes (i + length p) (scan i s p)
takes_by i s [] = omega arith
takes_by i s (b ∷ bs) = takes_move (next s (i + 1) b) i s b bs (λ t. takes_by (i + 1) t bs)

-- a scan takes no more than the piece
pub takes_scan : (s : Place) (p : List ℕ) → Takes (length p) (scan 0 s p)
takes_scan s p = let e : 0 + length p ≡ length p = omega arith in subst (λ l. Takes l (scan 0 s p)) e (takes_by 0 s p)

takes_closes : (s : Place) (fs : List Frame) (p : List ℕ) → Takes (length p) (out_at_end s fs)
takes_closes s [] p = tt
takes_closes s (f ∷ fs) p = omega arith

takes_in : (t : Token) (s : Place) (p : List ℕ) → Takes (length p) (out_from_token t s p)
takes_in AtEnd s p = takes_closes s s.frames p
takes_in AtTextEnd s p = omega arith
takes_in (AtBigDigit d room) s p = omega arith
takes_in (Dead c) s p = omega arith
takes_in _ s p = takes_scan s p

-- what comes of a piece takes no more than the piece
pub takes_advanced : (s : Place) (p : List ℕ) → Takes (length p) (out_from s p)
takes_advanced s p = takes_in s.token s p

-- What a method's answer says.

-- what the machine took keeps the numbers of its place
pub said_kept : (g : Advance) (m : Machine) (s : Place) (p : List ℕ) → IsSound s → out_of g m ≡ out_from s p →
    IsOut s (out_of g m) × Takes (length p) (out_of g m)
said_kept g m s p h e = (subst (IsOut s) (sym e) (is_advanced s p h), subst (Takes (length p)) (sym e) (takes_advanced s p))

used_by : (w : EventTag) (n l : ℕ) (m : Machine) (s : Place) → IsOut s (out_by w n m) → Takes l (out_by w n m) → (n ≤ l) × (m.taken ≤ s.taken)
used_by tag.More n l m s h k = (omega (arith, k), omega (arith, h.taken))
used_by tag.Part n l m s h k = (k.1, omega (arith, h.taken))
used_by tag.ChunkPart n l m s h k = (k.1, omega (arith, h.taken))
used_by tag.Done n l m s h k = (omega (arith, h.1), omega (arith, h.1))
used_by w n l m s h k = (k, omega (arith, h.0.taken))

-- no more than the piece is used, and no byte was counted before
pub used_within : (g : Advance) (m : Machine) (s : Place) (p : List ℕ) → IsSound s → out_of g m ≡ out_from s p → (g.used ≤ length p) × (m.taken ≤ s.taken)
used_within g m s p h e = let k = said_kept g m s p h e in used_by g.tag g.used (length p) m s k.0 k.1

few_at : (n : ℕ) (t : Place) → IsSoundBy n t → t.taken + n ≤ 2 ^ 40
few_at n t h = omega (arith, h.total, h.bounds.total_in_range.1)

few_by : (w : EventTag) (n : ℕ) (m : Machine) (s : Place) → IsOut s (out_by w n m) → m.taken + n ≤ 2 ^ 40
few_by tag.More n m s h = few_at n (place_of m) h.sound
few_by tag.Part n m s h = few_at n (place_of m) h.sound
few_by tag.ChunkPart n m s h = few_at n (place_of m) h.sound
few_by tag.Done n m s h = omega (arith, h.1)
few_by w n m s h = few_at n (place_of m) h.0.sound

-- the bytes taken are at most 2 ^ 40
-- what was taken of some place is within the piece, and few
pub taken_within : (g : Advance) (m : Machine) (p : List ℕ) → (s : Place) × IsSound s × (out_of g m ≡ out_from s p) → g.used ≤ length p
taken_within g m p (s, h, e) = (used_within g m s p h e).0

pub few_taken : (g : Advance) (m : Machine) (p : List ℕ) → (s : Place) × IsSound s × (out_of g m ≡ out_from s p) → m.taken + g.used ≤ 2 ^ 40
few_taken g m p (s, h, e) = few_by g.tag g.used m s (said_kept g m s p h e).0

part_by : (w : EventTag) (n l : ℕ) (m : Machine) → w ≡ tag.Part → Takes l (out_by w n m) → 0 < n
part_by w n l m e k = (subst (λ v. Takes l (out_by v n m)) e k).0

-- a part has a byte
pub part_some : (g : Advance) (m : Machine) (s : Place) (p : List ℕ) → IsSound s → out_of g m ≡ out_from s p → g.tag ≡ tag.Part → 0 < g.used
part_some g m s p h e w = part_by g.tag g.used (length p) m w (said_kept g m s p h e).1

-- a part of a chunk has a byte
pub chunk_part_some : (g : Advance) (m : Machine) (s : Place) (p : List ℕ) → IsSound s → out_of g m ≡ out_from s p → g.tag ≡ tag.ChunkPart → m.part_start < g.used
chunk_part_some g m s p h e w = (subst (λ v. Takes (length p) (out_by v g.used m)) w (said_kept g m s p h e).1).0

-- a digit that is owed takes no byte
pub digit_owed : (g : Advance) (m : Machine) (s : Place) (p : List ℕ) → IsSound s → out_of g m ≡ out_from s p → g.tag ≡ tag.Digit →
    (g.used ≡ 0) × (is_digit m.digit ≡ true)
digit_owed g m s p h e w = (subst (λ v. IsOut s (out_by v g.used m)) w (said_kept g m s p h e).0).1

-- at the end of a value no byte is taken, and none is counted
pub done_none : (g : Advance) (m : Machine) (s : Place) (p : List ℕ) → IsSound s → out_of g m ≡ out_from s p → g.tag ≡ tag.Done → (m.taken ≡ 0) × (g.used ≡ 0)
done_none g m s p h e w = let z = (subst (λ v. IsOut s (out_by v g.used m)) w (said_kept g m s p h e).0).1 in (omega (arith, z), omega (arith, z))

-- a machine that failed has met a byte that is refused
pub failed_is : (g : Advance) (m : Machine) (s : Place) (p : List ℕ) → IsSound s → out_of g m ≡ out_from s p → g.tag ≡ tag.Failed →
    (out_from s p ≡ Bad g.used m.cause (place_of m)) × (m.taken ≡ s.taken)
failed_is g m s p h e w =
    let f : out_by tag.Failed g.used m ≡ out_from s p = subst (λ v. out_by v g.used m ≡ out_from s p) w e in
    let k : IsOut s (out_by tag.Failed g.used m) = subst (IsOut s) (sym f) (is_advanced s p h) in
    (sym f, k.0.taken)
