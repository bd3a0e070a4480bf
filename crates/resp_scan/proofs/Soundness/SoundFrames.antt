-- The numbers of a place where a value has ended, an aggregate opens or closes, or a member begins.
use Rattle.std.proofs.Common.{◌≡◌, ℕ, ◌+◌, ◌-◌, ◌*◌, ◌/◌, ◌%◌, ◌<◌, ◌≤◌, true, false, cond, eqb, nat_le, ◌&&◌, List, [], ◌∷◌, length, None, refl, sym, ap, subst, ◌∙◌, arith}
use Rattle.std.proofs.lemmas.Bool.{false≢true}
use Rattle.std.proofs.lemmas.Bool.Decides.{nat_tests}
use Rattle.resp_value.specs.Bounds.{AreBounds}
use Rattle.resp_value.specs.declared.cause.Cause.TheVariants as cause
use Rattle.resp_value.specs.declared.kind.OpenKind.{OpenKind}
use Rattle.resp_value.specs.declared.kind.OpenKind.TheVariants as kind
use Rattle.resp_scan.specs.declared.frame.Frame.{Frame}
use Rattle.resp_scan.specs.declared.frame.Shape.{Shape}
use Rattle.resp_scan.specs.declared.frame.Shape.TheVariants.{Left, Begun}
use Rattle.resp_scan.specs.Machine.Tokens.{Token, Place, at, at_boundary, token_at_boundary, token_in_shape, AtStart, AtEnd, AtCloseCr}
use Rattle.resp_scan.specs.Machine.Room.{over_total, after_begin_in, items_cause, has_all, shape_after_begin, begun_count, need_after_begin, with_shape}
use Rattle.resp_scan.specs.Machine.Heads.{after_open, after_streamed_open}
use Rattle.resp_scan.specs.Machine.Moves.{may_close, may_close_of, without_first}
use Rattle.resp_scan.specs.Kinds.{rules_of}
use Rattle.resp_scan.specs.Machine.Sound.{need_of_streamed, start_needed, need_of_frame, need_of_frames, token_needed, AreCounted, IsOpenShape, MayHaveMore, IsClosed, IsTokenSound, IsSoundBy}
use Rattle.resp_scan.proofs.Soundness.SoundMoves.{cond_if, IsNext, none_else, total_room}

needed_shape : (depth : ℕ) (f : Frame) (fs : List Frame) (sh : Shape) → token_needed (token_in_shape sh) depth (f ∷ fs) ≡ 0
needed_shape depth f fs (Left n) = cond_if (λ t. token_needed t depth (f ∷ fs) ≡ 0) (eqb n 0) AtEnd AtStart (λ e. refl) (λ e. refl)
needed_shape depth f fs (Begun n) = refl

needed_within : (depth : ℕ) (fs : List Frame) → token_needed (token_at_boundary fs) depth fs ≡ 0
needed_within depth [] = refl
needed_within depth (f ∷ fs) = needed_shape depth f fs f.shape

fits_shape : (depth : ℕ) (f : Frame) (fs : List Frame) (sh : Shape) → f.shape ≡ sh → IsTokenSound (token_in_shape sh) depth (f ∷ fs)
fits_shape depth f fs (Left n) e =
    cond_if (λ t. IsTokenSound t depth (f ∷ fs)) (eqb n 0) AtEnd AtStart (λ z. e ∙ ap Left (let w : n ≡ 0 = grind (arith, nat_tests) in w))
    (λ z. subst IsOpenShape (sym e) (let w : 0 < n = grind (arith, nat_tests) in w))
fits_shape depth f fs (Begun n) e = subst IsOpenShape (sym e) tt

fits_within : (depth : ℕ) (fs : List Frame) → IsTokenSound (token_at_boundary fs) depth fs
fits_within depth [] = tt
fits_within depth (f ∷ fs) = fits_shape depth f fs f.shape refl

-- a place is as sound once a value has ended
pub sound_ended : (s : Place) (j : ℕ) → AreBounds s.bounds → length s.frames ≤ s.bounds.depth → AreCounted s.bounds.items s.frames →
    s.frames_need ≡ need_of_frames s.frames → s.taken + j + s.frames_need ≤ s.bounds.total → IsSoundBy j (at_boundary s)
sound_ended s j b n k o w = record {
  bounds = b;
  nested = n;
  counted = k;
  frames_need = o;
  total = omega (arith, w, needed_within s.bounds.depth s.frames);
  token = fits_within s.bounds.depth s.frames;
}

-- a place whose value has ended
pub is_ended : (s : Place) (t : Token) (i : ℕ) → IsSoundBy i (at s t) → 1 ≤ token_needed t s.bounds.depth s.frames → IsNext (i + 1) s (at_boundary s)
is_ended s t i h q =
    let w : s.taken + i + token_needed t s.bounds.depth s.frames + s.frames_need ≤ s.bounds.total = h.total in
    record { taken = refl; rules = refl; sound = sound_ended s (i + 1) h.bounds h.nested h.counted h.frames_need (omega (arith, w, q)) }

-- An aggregate opens.

is_pushed : (s : Place) (t : Token) (f : Frame) (i n : ℕ) → IsSoundBy i (at s t) → length s.frames < s.bounds.depth → begun_count f.shape ≤ s.bounds.items * 2 →
    need_of_frame f.kind f.shape ≡ n → n + 1 ≤ token_needed t s.bounds.depth s.frames →
    IsNext (i + 1) s (at_boundary (record s { frames = f ∷ s.frames; frames_need = s.frames_need + n }))
is_pushed s t f i n h l k e q =
    let w : s.taken + i + token_needed t s.bounds.depth s.frames + s.frames_need ≤ s.bounds.total = h.total in
    let o : s.frames_need ≡ need_of_frames s.frames = h.frames_need in
    record {
      taken = refl;
      rules = refl;
      sound = sound_ended (record s { frames = f ∷ s.frames; frames_need = s.frames_need + n }) (i + 1) h.bounds
          (omega (arith, l)) (k, h.counted) (omega (arith, o, e)) (omega (arith, w, q));
    }

-- a place whose aggregate of this many members has opened
pub is_opened : (s : Place) (t : Token) (k : OpenKind) (n i : ℕ) → IsSoundBy i (at s t) → length s.frames < s.bounds.depth →
    n * 3 + 1 ≤ token_needed t s.bounds.depth s.frames → IsNext (i + 1) s (after_open s k n)
is_opened s t k n i h l q = is_pushed s t (record { kind = k; shape = Left n }) i (n * 3) h l (omega arith) refl q

streamed_three : (k : OpenKind) → need_of_streamed k 0 ≡ 3
streamed_three kind.Array = refl
streamed_three _ = refl

-- a place whose streamed aggregate has opened
pub is_opened_streamed : (s : Place) (t : Token) (k : OpenKind) (i : ℕ) → IsSoundBy i (at s t) → length s.frames < s.bounds.depth →
    4 ≤ token_needed t s.bounds.depth s.frames → IsNext (i + 1) s (after_streamed_open s k)
is_opened_streamed s t k i h l q = is_pushed s t (record { kind = k; shape = Begun 0 }) i 3 h l (omega arith) (streamed_three k) q

-- A member begins.

need_of_map : (n o r : ℕ) → o ≡ need_of_streamed kind.Map n + r → cond (eqb (n % 2) 0) (o + 3) (o - 3) ≡ need_of_streamed kind.Map (n + 1) + r
need_of_map n o r e = elim (eqb (n % 2) 0) as (λ v. eqb (n % 2) 0 ≡ v → o ≡ cond v 3 6 + r → cond v (o + 3) (o - 3) ≡ need_of_streamed kind.Map (n + 1) + r) [
  | true ↦ λ z h. let y : eqb ((n + 1) % 2) 0 ≡ false = grind (arith, nat_tests) in simp y (omega (arith, h))
  | false ↦ λ z h. let y : eqb ((n + 1) % 2) 0 ≡ true = grind (arith, nat_tests) in simp y (omega (arith, h))
] refl e

begun_need : (k : OpenKind) (sh : Shape) (o r : ℕ) → IsOpenShape sh → o ≡ need_of_frame k sh + r →
    need_after_begin k sh o ≡ need_of_frame k (shape_after_begin sh) + r
begun_need k (Left n) o r h e = omega (arith, h, e)
begun_need kind.Map (Begun n) o r h e = need_of_map n o r e
begun_need _ _ o r h e = e

counted_map : (n items : ℕ) → (eqb (n % 2) 0 && nat_le items (n / 2)) ≡ false → n ≤ items * 2 → n + 1 ≤ items * 2
counted_map n items e l = grind (arith, nat_tests)

counted_one : (n items : ℕ) → nat_le items n ≡ false → n ≤ items * 2 → n + 1 ≤ items * 2
counted_one n items e l = grind (arith, nat_tests)

begun_counted : (k : OpenKind) (sh : Shape) (items : ℕ) → has_all k sh items ≡ false → begun_count sh ≤ items * 2 →
    begun_count (shape_after_begin sh) ≤ items * 2
begun_counted k (Left n) items e l = omega arith
begun_counted kind.Map (Begun n) items e l = counted_map n items e l
begun_counted kind.Array (Begun n) items e l = counted_one n items e l
begun_counted kind.Set (Begun n) items e l = counted_one n items e l
begun_counted kind.Attr (Begun n) items e l = counted_one n items e l
begun_counted kind.Push (Begun n) items e l = counted_one n items e l

-- as many frames are open once a member has begun
pub begun_length : (s : Place) (fs : List Frame) → s.frames ≡ fs → length (after_begin_in s fs).frames ≡ length s.frames
begun_length s [] e = refl
begun_length s (f ∷ fs) e = ap length (sym e)

-- as many bytes are taken once a member has begun
pub begun_taken : (s : Place) (fs : List Frame) → (after_begin_in s fs).taken ≡ s.taken
begun_taken s [] = refl
begun_taken s (f ∷ fs) = refl

-- the rules are the same once a member has begun
pub begun_rules : (s : Place) (fs : List Frame) → rules_of (after_begin_in s fs) ≡ rules_of s
begun_rules s [] = refl
begun_rules s (f ∷ fs) = refl

-- a place is as sound once a member has begun
pub sound_begun : (s : Place) (fs : List Frame) (n : ℕ) (u : Token) → s.frames ≡ fs → IsSoundBy 0 (at s AtStart) →
    items_cause fs s.bounds.items (over_total (after_begin_in s fs) 1 n) ≡ None → 0 < n → token_needed u s.bounds.depth (after_begin_in s fs).frames ≤ n →
    IsTokenSound u s.bounds.depth (after_begin_in s fs).frames → IsSoundBy 1 (at (after_begin_in s fs) u)
sound_begun s [] n u e h c l q f =
    let w = total_room s 1 n c l in
    record { bounds = h.bounds; nested = h.nested; counted = h.counted; frames_need = h.frames_need; total = omega (arith, w, q); token = f }
sound_begun s (x ∷ fs) n u e h c l q f =
    let z = none_else (has_all x.kind x.shape s.bounds.items) cause.Items (over_total (after_begin_in s (x ∷ fs)) 1 n) c in
    let w = total_room (after_begin_in s (x ∷ fs)) 1 n z.1 l in
    let k : AreCounted s.bounds.items (x ∷ fs) = subst (AreCounted s.bounds.items) e h.counted in
    record {
      bounds = h.bounds;
      nested = subst (λ v. length v ≤ s.bounds.depth) e h.nested;
      counted = (begun_counted x.kind x.shape s.bounds.items z.0 k.0, k.1);
      frames_need = begun_need x.kind x.shape s.frames_need (need_of_frames fs) (subst MayHaveMore e h.token) (h.frames_need ∙ ap need_of_frames e);
      total = omega (arith, w, q);
      token = f;
    }

closed_map : (n : ℕ) → eqb (n % 2) 0 ≡ true → need_of_streamed kind.Map n ≡ 3
closed_map n e = ap (λ v. cond v 3 6) e

-- a streamed aggregate that may close needs the three bytes of its close
pub closes_three : (k : OpenKind) (sh : Shape) → may_close_of k sh ≡ true → need_of_frame k sh ≡ 3
closes_three k (Left n) e = absurd (false≢true e)
closes_three kind.Map (Begun n) e = closed_map n e
closes_three _ _ e = refl

-- a place is as sound at the close of a streamed aggregate
pub sound_closing : (s : Place) (fs : List Frame) → s.frames ≡ fs → IsSoundBy 0 (at s AtStart) → may_close fs ≡ true →
    IsSoundBy 1 (record s { token = AtCloseCr; frames = with_shape (Left 0) fs; frames_need = s.frames_need - 3 })
sound_closing s [] e h m = absurd (false≢true m)
sound_closing s (x ∷ fs) e h m =
    let t : need_of_frame x.kind x.shape ≡ 3 = closes_three x.kind x.shape m in
    let o : s.frames_need ≡ need_of_frame x.kind x.shape + need_of_frames fs = h.frames_need ∙ ap need_of_frames e in
    let w : s.taken + 0 + start_needed s.frames + s.frames_need ≤ s.bounds.total = h.total in
    let k : AreCounted s.bounds.items (x ∷ fs) = subst (AreCounted s.bounds.items) e h.counted in
    record {
      bounds = h.bounds;
      nested = subst (λ v. length v ≤ s.bounds.depth) e h.nested;
      counted = (omega arith, k.1);
      frames_need = omega (arith, o, t);
      total = omega (arith, o, t, w);
      token = refl;
    }

-- the innermost aggregate, which has all, ends
pub sound_closed : (s : Place) (t : Token) (fs : List Frame) (i j : ℕ) → s.frames ≡ fs → IsSoundBy i (at s t) → IsClosed fs →
    s.taken + j + s.frames_need ≤ s.bounds.total → IsSoundBy j (at_boundary (record s { frames = without_first fs }))
sound_closed s t [] i j e h c w =
    sound_ended (record s { frames = [] }) j h.bounds (omega arith) tt (h.frames_need ∙ ap need_of_frames e) w
sound_closed s t (x ∷ fs) i j e h c w =
    let o : s.frames_need ≡ need_of_frame x.kind x.shape + need_of_frames fs = h.frames_need ∙ ap need_of_frames e in
    let z : need_of_frame x.kind x.shape ≡ 0 = ap (need_of_frame x.kind) c in
    let k : AreCounted s.bounds.items (x ∷ fs) = subst (AreCounted s.bounds.items) e h.counted in
    let n : length (x ∷ fs) ≤ s.bounds.depth = subst (λ v. length v ≤ s.bounds.depth) e h.nested in
    sound_ended (record s { frames = fs }) j h.bounds (omega (arith, n)) k.1 (omega (arith, o, z)) w
