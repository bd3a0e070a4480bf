-- How open aggregates change: a head opens one, a whole value ends in one, and a close ends one.
use Rattle.std.proofs.Common.{◌%◌, ◌*◌, ◌++◌, ◌+◌, ◌-◌, ◌∙◌, ◌∷◌, ◌≡◌, List, [], ap, append-nil, append_assoc, arith, length, refl, subst, suc, sym, zero, ℕ}
use Rattle.resp_value.specs.Bytes.{crlf}
use Rattle.resp_value.specs.Data.{Kind, Map, members_of}
use Rattle.resp_value.specs.LocalRules.{HoldsFrom, LeafRule, NodeRule}
use Rattle.resp_value.specs.Numbers.{number}
use Rattle.resp_value.specs.Trees.{Counted, Form, HasMembers, IsTree, Streamed, Tree, Trees, close, count, form_line, kind_byte, more, node, none, text, texts}
use Rattle.resp_fronts.specs.Frames.{Frame, text_around, open_text}
use Rattle.resp_fronts.specs.MayFollow.{CanAllEnd, CanEnd, IsWholeText, frames_needed, members_missing}
use Rattle.resp_fronts.proofs.FrameLaws.Composition.{joined_is, joined_trees_hold}
use Rattle.resp_fronts.proofs.FrameLaws.OpenFrames.{are_joined, count-joined_trees, joined_trees, texts-joined_trees}
use Rattle.resp_fronts.specs.OpenLevels.{Shape, to_come, so_far, Level, HasShape, AreLevelsOf, AreReady}

-- the members and the close that must still come, where the next member hasn't begun
abbrev pub shape_needed : Kind → Shape → ℕ
shape_needed k (to_come m) = 3 * m
shape_needed Map (so_far m) = 3 * (m % 2) + 3
shape_needed _ _ = 3

-- the shape once its open member is whole
abbrev pub shape_after : Shape → Shape
shape_after (to_come m) = to_come (m - 1)
shape_after (so_far m) = so_far (m + 1)

-- what the levels need once the open member is whole
abbrev pub levels_needed : List Level → ℕ
levels_needed [] = 0
levels_needed (v ∷ vs) = shape_needed v.kind (shape_after v.shape) + levels_needed vs

-- the members that a count promises, as its digits say
promised : (k : Kind) (ds es : List ℕ) (n : ℕ) → Counted ds ≡ Counted es → members_of k (number es) ≡ n → members_of k (number ds) ≡ n
promised k ds es n e members = let d : ds ≡ es = cc in ap (λ z. members_of k (number z)) d ∙ members

-- that is three bytes for each missing member, and the close
pub shape_needed_is : (k : Kind) (s : Shape) (f : Form) (n : ℕ) → HasShape k s f n → shape_needed k s ≡ 3 * members_missing k f n + length (close f)
shape_needed_is k (to_come m) (Counted ds) n h = omega (arith, promised k ds h.0 (n + m) h.1 h.3)
shape_needed_is k (to_come m) Streamed n h = let e : Streamed ≡ Counted h.0 = h.1 in absurd (cc)
shape_needed_is k (so_far m) (Counted ds) n h = let e : Counted ds ≡ Streamed = h.0 in absurd (cc)
shape_needed_is Map (so_far m) Streamed n h = let e : m ≡ n = h.1 in omega (arith, ap (λ z. z % 2) e)
shape_needed_is _ _ _ n h = refl

shape_later : (k : Kind) (s : Shape) (f : Form) (n : ℕ) → HasShape k s f n → shape_needed k (shape_after s) ≡ 3 * members_missing k f (suc n) + length (close f)
shape_later k (to_come m) (Counted ds) n h = omega (arith, h.4, promised k ds h.0 (n + m) h.1 h.3)
shape_later k (to_come m) Streamed n h = let e : Streamed ≡ Counted h.0 = h.1 in absurd (cc)
shape_later k (so_far m) (Counted ds) n h = let e : Counted ds ≡ Streamed = h.0 in absurd (cc)
shape_later k (so_far m) Streamed n h = let e : m + 1 ≡ suc n = omega (arith, h.1) in shape_needed_is k (so_far (m + 1)) Streamed (suc n) (refl, e)

-- what the levels need is what the frames need
pub levels_needed_is : (vs : List Level) (fs : List Frame) → AreLevelsOf vs fs → levels_needed vs ≡ frames_needed fs
levels_needed_is [] [] h = refl
levels_needed_is [] (f ∷ fs) h = absurd h
levels_needed_is (v ∷ vs) [] h = absurd h
levels_needed_is (v ∷ vs) (f ∷ fs) h =
    let k : v.kind ≡ f.kind = h.0 in
    let e : shape_needed v.kind (shape_after v.shape) ≡ shape_needed f.kind (shape_after v.shape) = ap (λ z. shape_needed z (shape_after v.shape)) k in
    omega (arith, shape_later f.kind v.shape f.form (count f.done) h.1, levels_needed_is vs fs h.2)

-- an aggregate with one member more
abbrev pub with_member : Frame → Tree → Frame
with_member f t = record { kind = f.kind; form = f.form; done = joined_trees f.done (more t none) }

-- the text of a frame with one member more
pub open-with : (f : Frame) (t : Tree) → open_text (with_member f t) ≡ open_text f ++ text t
open-with f t =
    let h = kind_byte f.kind ∷ form_line f.form in
    ap (λ z. h ++ crlf z) (texts-joined_trees f.done (more t none) ∙ ap (λ z. texts f.done ++ z) (append-nil (text t))) ∙
    sym (append_assoc h (crlf (texts f.done)) (text t))

-- a whole member's text within the innermost frame is that of the frame with the member
pub around-with : (f : Frame) (fs : List Frame) (t : Tree) → text_around (f ∷ fs) (text t) ≡ text_around (with_member f t ∷ fs) []
around-with f fs t = ap (text_around fs) (sym (open-with f t) ∙ sym (append-nil (open_text (with_member f t))))

-- a counted aggregate with its last member is whole
pub around-full : (f : Frame) (fs : List Frame) (t : Tree) (ds : List ℕ) → f.form ≡ Counted ds →
    text_around (f ∷ fs) (text t) ≡ text_around fs (text (node f.kind f.form (joined_trees f.done (more t none))))
around-full f fs t ds e =
    let h = kind_byte f.kind ∷ form_line f.form in
    ap (text_around fs) (sym (open-with f t) ∙ ap (λ z. h ++ crlf z) (sym (append-nil (texts (joined_trees f.done (more t none)))) ∙
    ap (λ z. texts (joined_trees f.done (more t none)) ++ close z) (sym e)))

-- a streamed frame and its close are a whole value within the frames around it
pub around-close : (f : Frame) (fs : List Frame) → f.form ≡ Streamed → text_around (f ∷ fs) (46 ∷ crlf []) ≡ text_around fs (text (node f.kind f.form f.done))
around-close f fs e =
    let h = kind_byte f.kind ∷ form_line f.form in
    ap (text_around fs) (append_assoc h (crlf (texts f.done)) (46 ∷ crlf []) ∙ ap (λ z. h ++ crlf (texts f.done ++ close z)) (sym e))

-- a head opens an aggregate
pub around-open : (k : Kind) (f : Form) (fs : List Frame) → text_around fs ((kind_byte k ∷ form_line f) ++ crlf []) ≡
    text_around (record { kind = k; form = f; done = none } ∷ fs) []
around-open k f fs = ap (text_around fs) (sym (append-nil ((kind_byte k ∷ form_line f) ++ crlf [])))

-- a value is whole within open aggregates; each aggregate that it ends is whole too
pub data Ended : Type 0 where
  all_ended : Ended
  within_frames : List Level → Ended

-- a level whose open member has ended
abbrev pub finish_in : Kind → Shape → List Level → Ended → Ended
finish_in k (to_come zero) vs e = e
finish_in k (to_come (suc zero)) vs e = e
finish_in k (to_come (suc (suc m))) vs e = within_frames (record { kind = k; shape = to_come (suc m) } ∷ vs)
finish_in k (so_far m) vs e = within_frames (record { kind = k; shape = so_far (m + 1) } ∷ vs)

-- the levels once a value has ended: each that it fills ends too
abbrev pub finish : List Level → Ended
finish [] = all_ended
finish (v ∷ vs) = finish_in v.kind v.shape vs (finish vs)

-- what the bytes are then
abbrev pub IsEnded : LeafRule → NodeRule → Ended → List ℕ → Type 0
IsEnded L N all_ended p = IsWholeText L N p
IsEnded L N (within_frames vs) p = (fs : List Frame) × AreLevelsOf vs fs × AreReady L N fs × (p ≡ text_around fs [])

ended_in : (L : LeafRule) (N : NodeRule) (k : Kind) (s : Shape) (vs : List Level) (f : Frame) (fs : List Frame) (t : Tree) → k ≡ f.kind →
    HasShape f.kind s f.form (count f.done) → AreLevelsOf vs fs → CanAllEnd L N (f ∷ fs) → IsTree t → HoldsFrom L N (suc (length fs)) t →
    ((u : Tree) → IsTree u → HoldsFrom L N (length fs) u → IsEnded L N (finish vs) (text_around fs (text u))) →
    IsEnded L N (finish_in k s vs (finish vs)) (text_around (f ∷ fs) (text t))
ended_in L N k (to_come zero) vs f fs t e h a o p q ih = absurd (omega arith)
ended_in L N k (to_come (suc zero)) vs f fs t e h a o p q ih =
    let n = suc (count f.done) in
    let us : Trees = more t none in
    let m : n ≡ count f.done + count us = omega arith in
    let c : members_of f.kind (number h.0) ≡ count f.done + 1 = h.3 in
    let x : members_missing f.kind f.form n ≡ members_missing f.kind (Counted h.0) n = ap (λ z. members_missing f.kind z n) h.1 in
    let z : n + members_missing f.kind f.form n ≡ n = omega arith in
    let w = joined_is L N (length fs) f us n o.1 o.2 (p, tt) (q, tt) m (subst (HasMembers f.kind f.form) z o.0.0)
    (subst (N (length fs) f.kind f.form) z o.0.1) in
    subst (IsEnded L N (finish vs)) (sym (around-full f fs t h.0 h.1)) (ih (node f.kind f.form (joined_trees f.done us)) w.0 w.1)
ended_in L N k (to_come (suc (suc m))) vs f fs t e h a o p q ih =
    let us : Trees = more t none in
    let c : suc (count f.done) ≡ count (joined_trees f.done us) = omega (arith, count-joined_trees f.done us) in
    let w : members_of f.kind (number h.0) ≡ count f.done + suc (suc m) = h.3 in (
      with_member f t ∷ fs,
      (e, (h.0, h.1, h.2, omega arith, omega arith), a),
      (subst (CanEnd N (length fs) f.kind f.form) c o.0, are_joined f.done us o.1 (p, tt), joined_trees_hold L N (suc (length fs)) f.done us o.2 (q, tt), o.3),
      around-with f fs t,
    )
ended_in L N k (so_far m) vs f fs t e h a o p q ih =
    let us : Trees = more t none in
    let c : suc (count f.done) ≡ count (joined_trees f.done us) = omega (arith, count-joined_trees f.done us) in (
      with_member f t ∷ fs,
      (e, (h.0, omega (arith, h.1)), a),
      (subst (CanEnd N (length fs) f.kind f.form) c o.0, are_joined f.done us o.1 (p, tt), joined_trees_hold L N (suc (length fs)) f.done us o.2 (q, tt), o.3),
      around-with f fs t,
    )

-- a value that is whole ends each frame that it fills
pub ended : (L : LeafRule) (N : NodeRule) (vs : List Level) (fs : List Frame) (t : Tree) → AreLevelsOf vs fs → CanAllEnd L N fs → IsTree t →
    HoldsFrom L N (length fs) t → IsEnded L N (finish vs) (text_around fs (text t))
ended L N [] [] t a o p q = record { tree = t; is_tree = p; keep = q; whole = refl }
ended L N [] (f ∷ fs) t a o p q = absurd a
ended L N (v ∷ vs) [] t a o p q = absurd a
ended L N (v ∷ vs) (f ∷ fs) t a o p q = ended_in L N v.kind v.shape vs f fs t a.0 a.1 a.2 o p q (λ u i k. ended L N vs fs u a.2 o.3 i k)

-- a head that opens an aggregate of members
pub opened : (L : LeafRule) (N : NodeRule) (vs : List Level) (fs : List Frame) (k : Kind) (f : Form) (s : Shape) → AreLevelsOf vs fs → CanAllEnd L N fs →
    HasShape k s f 0 → CanEnd N (length fs) k f 0 → IsEnded L N (within_frames (record { kind = k; shape = s } ∷ vs))
    (text_around fs ((kind_byte k ∷ form_line f) ++ crlf []))
opened L N vs fs k f s a o h c = (record { kind = k; form = f; done = none } ∷ fs, (refl, h, a), (c, tt, tt, o), around-open k f fs)

-- a close
pub stopped : (L : LeafRule) (N : NodeRule) (v : Level) (vs : List Level) (f : Frame) (fs : List Frame) → AreLevelsOf (v ∷ vs) (f ∷ fs) →
    AreReady L N (f ∷ fs) → f.form ≡ Streamed → members_missing f.kind f.form (count f.done) ≡ 0 → IsEnded L N (finish vs) (text_around (f ∷ fs) (46 ∷ crlf []))
stopped L N v vs f fs a o e z =
    let c : count f.done + members_missing f.kind f.form (count f.done) ≡ count f.done = omega arith in
    subst (IsEnded L N (finish vs)) (sym (around-close f fs e)) (ended L N vs fs (node f.kind f.form f.done) a.2 o.3 (
      subst (HasMembers f.kind f.form) c o.0.0,
      o.1,
    ) (subst (N (length fs) f.kind f.form) c o.0.1, o.2))
