-- From one byte to a piece: what a step answers, in words of what came.
use Rattle.std.specs.Prelude.{false, take, drop}
use Rattle.std.proofs.Common.{◌≡◌, ℕ, suc, ◌+◌, ◌-◌, ◌<◌, ◌≤◌, List, [], ◌∷◌, ◌++◌, length, sym, ap, subst, ◌∙◌, arith, append_assoc, append-nil, length-append}
use Rattle.std.proofs.lemmas.Bool.{false≢true}
use Rattle.resp_value.specs.Bytes.{IsText}
use Rattle.resp_value.specs.Rules.{Rules}
use Rattle.resp_value.specs.declared.cause.Cause.{Cause}
use Rattle.resp_fronts.specs.Events.{Event}
use Rattle.resp_fronts.specs.Events as e
use Rattle.resp_scan.specs.Machine.Tokens.{Place, Token, Move, Go, Byte, Give, Refuse}
use Rattle.resp_scan.specs.Machine.Moves.{next}
use Rattle.resp_scan.specs.Machine.Scan.{Out, More, Gave, Part, Whole, Bad, and_more, answer, content, scan}
use Rattle.resp_scan.specs.Kinds.{IsRefusedFor, content_events, event_of, rules_of}
use Rattle.resp_scan.specs.Machine.Sound.{IsSoundBy}
use Rattle.resp_scan.specs.Machine.Standing.{HasCountsOf, Leads, StandsAfter}
use Rattle.resp_scan.specs.Reading.{AreDue}
use Rattle.resp_scan.proofs.CallClauses.AllGiven.{all_due}
use Rattle.resp_scan.proofs.CallClauses.Fronts.{take-none}
use Rattle.resp_scan.proofs.TokenMoves.EachLeads.{IsLookedAt, each_leads}
use Rattle.resp_scan.proofs.Soundness.Sound.{is_move}
use Rattle.resp_scan.proofs.Soundness.SoundMoves.{IsMove, is_outside}

-- before a refused byte the front was followed, and with it nothing can follow
pub record RefusedAt (r : Rules) (front : List ℕ) (es : List Event) (byte used : ℕ) (c : Cause) : Type 0 where
  pub before : Place
  pub rules : rules_of before ≡ r
  pub sound : IsSoundBy used before
  pub taken : length front ≡ before.taken + used
  pub stands : StandsAfter before front es
  pub looked : IsLookedAt before.token used
  pub cause : IsRefusedFor r (front ++ byte ∷ []) c

-- what came of a piece of which this many bytes are used before these, by an answer
abbrev pub Came : Rules → ℕ → List ℕ → List Event → List ℕ → Out → Type 0
Came r i front es p (More n t) = (n ≡ i + length p) × IsLookedAt t.token n × StandsAfter t (front ++ p) es
Came r i front es p (Gave n happening t) = (i < n) × (n ≤ i + length p) × StandsAfter t (front ++ take (n - i) p) (es ++ event_of happening ∷ []) ×
    AreDue (front ++ take (n - 1 - i) p) es
Came r i front es p (Part k n t) = (i ≤ k) × (k < n) × (n ≤ i + length p) ×
    StandsAfter t (front ++ take (n - i) p) (es ++ content_events (drop (k - i) (take (n - i) p))) × AreDue (front ++ take (k - i) p) es
Came r i front es p (Whole t) = ⊥
Came r i front es p (Bad n c t) = (i ≤ n) × (n < i + length p) × (byte : ℕ) × (rest : List ℕ) × (p ≡ take (n - i) p ++ byte ∷ rest) ×
    RefusedAt r (front ++ take (n - i) p) es byte n c

-- One byte more in front of a piece.

taken_more : (i n b : ℕ) (bs : List ℕ) → i + 1 ≤ n → b ∷ take (n - (i + 1)) bs ≡ take (n - i) (b ∷ bs)
taken_more i n b bs h = let e : n - i ≡ suc (n - (i + 1)) = omega arith in ap (λ m. take m (b ∷ bs)) (sym e)

longer : (front : List ℕ) (i n b : ℕ) (bs : List ℕ) → i + 1 ≤ n → (front ++ b ∷ []) ++ take (n - (i + 1)) bs ≡ front ++ take (n - i) (b ∷ bs)
longer front i n b bs h = append_assoc front (b ∷ []) (take (n - (i + 1)) bs) ∙ ap (λ z. front ++ z) (taken_more i n b bs h)

came_later : (r : Rules) (i : ℕ) (front : List ℕ) (es : List Event) (b : ℕ) (bs : List ℕ) (o : Out) → Came r (i + 1) (front ++ b ∷ []) es bs o →
    Came r i front es (b ∷ bs) o
came_later r i front es b bs (More n t) h = (
  let m : n ≡ i + 1 + length bs = h.0 in
      omega (arith, m),
  h.1,
  subst (λ z. StandsAfter t z es) (append_assoc front (b ∷ []) bs) h.2,
)
came_later r i front es b bs (Gave n happening t) h =
    let l : i + 1 < n = h.0 in
    let m : n ≤ i + 1 + length bs = h.1 in (
      omega (arith, l),
      omega (arith, m),
      subst (λ z. StandsAfter t z (es ++ event_of happening ∷ [])) (longer front i n b bs (omega (arith, l))) h.2,
      subst (λ z. AreDue z es) (longer front i (n - 1) b bs (omega (arith, l))) h.3,
    )
came_later r i front es b bs (Part k n t) h =
    let j : i + 1 ≤ k = h.0 in
    let l : k < n = h.1 in
    let m : n ≤ i + 1 + length bs = h.2 in
    let q : drop (k - (i + 1)) (take (n - (i + 1)) bs) ≡ drop (k - i) (take (n - i) (b ∷ bs)) =
    (let e : k - i ≡ suc (k - (i + 1)) = omega (arith, j) in
    sym (ap (λ x. drop x (take (n - i) (b ∷ bs))) e ∙ ap (λ z. drop (suc (k - (i + 1))) z) (sym (taken_more i n b bs (omega (arith, j, l)))))) in (
      omega (arith, j),
      l,
      omega (arith, m),
      subst (λ z. StandsAfter t (front ++ take (n - i) (b ∷ bs)) (es ++ content_events z)) q
          (subst (λ z. StandsAfter t z (es ++ content_events (drop (k - (i + 1)) (take (n - (i + 1)) bs)))) (longer front i n b bs (omega (arith, j, l))) h.3),
      subst (λ z. AreDue z es) (longer front i k b bs j) h.4,
    )
came_later r i front es b bs (Whole t) h = h
came_later r i front es b bs (Bad n c t) (j, m, byte, rest, parts, w) =
    let j0 : i + 1 ≤ n = j in
    let m0 : n < i + 1 + length bs = m in (
      omega (arith, j0),
      omega (arith, m0),
      byte,
      rest,
      ap (λ z. b ∷ z) parts ∙ ap (λ z. z ++ byte ∷ rest) (taken_more i n b bs j0),
      subst (λ z. RefusedAt r z es byte n c) (longer front i n b bs j0) w,
    )

-- Runs of content.

-- what came of a run
abbrev Ran : ℕ → List ℕ → List Event → List ℕ → ℕ × Place → Type 0
Ran i front es p out = (i ≤ out.0) × (out.0 ≤ i + length p) × StandsAfter out.1 (front ++ take (out.0 - i) p) (es ++ content_events (take (out.0 - i) p))

none_taken : (i : ℕ) (s : Place) (front : List ℕ) (es : List Event) (p : List ℕ) → StandsAfter s front es → Ran i front es p (i, s)
none_taken i s front es p w =
    let z : i - i ≡ 0 = omega arith in
    let t : take (i - i) p ≡ [] = ap (λ n. take n p) z ∙ take-none p in (
      omega arith,
      omega arith,
      subst (λ x. StandsAfter s (front ++ x) (es ++ content_events x)) (sym t)
          (subst (λ x. StandsAfter s x (es ++ [])) (sym (append-nil front)) (subst (StandsAfter s front) (sym (append-nil es)) w)),
    )

one_more : (i : ℕ) (front : List ℕ) (es : List Event) (b : ℕ) (bs : List ℕ) (out : ℕ × Place) → Ran (i + 1) (front ++ b ∷ []) (es ++ e.Byte b ∷ []) bs out →
    Ran i front es (b ∷ bs) out
one_more i front es b bs out h =
    let l : i + 1 ≤ out.0 = h.0 in
    let m : out.0 ≤ i + 1 + length bs = h.1 in
    let q = take (out.0 - (i + 1)) bs in
    let told : (es ++ e.Byte b ∷ []) ++ content_events q ≡ es ++ content_events (take (out.0 - i) (b ∷ bs)) =
    append_assoc es (e.Byte b ∷ []) (content_events q) ∙ ap (λ z. es ++ content_events z) (taken_more i out.0 b bs l) in (
      omega (arith, l),
      omega (arith, m),
      subst (λ z. StandsAfter out.1 z (es ++ content_events (take (out.0 - i) (b ∷ bs)))) (longer front i out.0 b bs l)
          (subst (StandsAfter out.1 ((front ++ b ∷ []) ++ q)) told h.2),
    )

looked_at : (t : Token) (used : ℕ) → is_outside t ≡ false → IsLookedAt t used
looked_at t used e f = absurd (false≢true (sym e ∙ f))

counts_more : (i : ℕ) (s t : Place) (front : List ℕ) (b : ℕ) → HasCountsOf s i front → t.taken ≡ s.taken → IsSoundBy (i + 1) t →
    HasCountsOf t (i + 1) (front ++ b ∷ [])
counts_more i s t front b c same h = record { sound = h; taken = omega (arith, c.taken, same, length-append front (b ∷ [])) }

ran_move : (v : Move) (i : ℕ) (s : Place) (front : List ℕ) (es : List Event) (b : ℕ) (bs : List ℕ) → HasCountsOf s i front → StandsAfter s front es →
    IsMove (i + 1) s v → Leads s front es b v → ((t : Place) → HasCountsOf t (i + 1) (front ++ b ∷ []) → is_outside t.token ≡ false →
    StandsAfter t (front ++ b ∷ []) (es ++ e.Byte b ∷ []) → Ran (i + 1) (front ++ b ∷ []) (es ++ e.Byte b ∷ []) bs (content (i + 1) t bs)) →
    Ran i front es (b ∷ bs) (and_more v (i, s) (λ t. content (i + 1) t bs))
ran_move (Byte t) i s front es b bs c w m l f = one_more i front es b bs (content (i + 1) t bs) (f t (counts_more i s t front b c m.taken m.sound) m.inside l)
ran_move _ i s front es b bs c w m l f = none_taken i s front es (b ∷ bs) w

came_content : (i : ℕ) (s : Place) (front : List ℕ) (es : List Event) (p : List ℕ) → IsText p → HasCountsOf s i front → is_outside s.token ≡ false →
    StandsAfter s front es → Ran i front es p (content i s p)
came_content i s front es [] text c inside w = none_taken i s front es [] w
came_content i s front es (b ∷ bs) text c inside w =
    ran_move (next s (i + 1) b) i s front es b bs c w (is_move s.token s i b c.sound (λ q. (looked_at s.token i inside q).1))
    (each_leads s.token s i b front es text.0 c (looked_at s.token i inside) w)
    (λ t d z l. came_content (i + 1) t (front ++ b ∷ []) (es ++ e.Byte b ∷ []) bs text.1 d z l)

-- A piece, up to its next event.

-- no byte more
due_before : (front : List ℕ) (es : List Event) (n : ℕ) (p : List ℕ) → n ≡ 0 → AreDue front es → AreDue (front ++ take n p) es
due_before front es n p none due =
    subst (λ z. AreDue z es) (sym (ap (λ m. front ++ take m p) none ∙ ap (λ z. front ++ z) (take-none p) ∙ append-nil front)) due

came_run : (r : Rules) (i : ℕ) (front : List ℕ) (es : List Event) (b : ℕ) (bs : List ℕ) (out : ℕ × Place) → AreDue front es →
    Ran (i + 1) (front ++ b ∷ []) (es ++ e.Byte b ∷ []) bs out → Came r i front es (b ∷ bs) (Part i out.0 out.1)
came_run r i front es b bs out due h =
    let l : i + 1 ≤ out.0 = h.0 in
    let w = one_more i front es b bs out h in
    let z : i - i ≡ 0 = omega arith in
    let m : out.0 ≤ i + length (b ∷ bs) = w.1 in (
      omega arith,
      omega (arith, l),
      m,
      subst (λ x. StandsAfter out.1 (front ++ take (out.0 - i) (b ∷ bs)) (es ++ content_events x))
          (sym (ap (λ n. drop n (take (out.0 - i) (b ∷ bs))) z)) w.2,
      due_before front es (i - i) (b ∷ bs) z due,
    )

came_move : (v : Move) (r : Rules) (i : ℕ) (s : Place) (front : List ℕ) (es : List Event) (b : ℕ) (bs : List ℕ) → rules_of s ≡ r → HasCountsOf s i front →
    StandsAfter s front es → IsLookedAt s.token i → IsMove (i + 1) s v → Leads s front es b v →
    ((t : Place) → rules_of t ≡ r → HasCountsOf t (i + 1) (front ++ b ∷ []) → is_outside t.token ≡ false → StandsAfter t (front ++ b ∷ []) es →
    Came r (i + 1) (front ++ b ∷ []) es bs (scan (i + 1) t bs)) →
    ((t : Place) → HasCountsOf t (i + 1) (front ++ b ∷ []) → is_outside t.token ≡ false → StandsAfter t (front ++ b ∷ []) (es ++ e.Byte b ∷ []) →
    Ran (i + 1) (front ++ b ∷ []) (es ++ e.Byte b ∷ []) bs (content (i + 1) t bs)) →
    Came r i front es (b ∷ bs) (answer v i s (λ t. scan (i + 1) t bs) (λ t. content (i + 1) t bs))
came_move (Go t) r i s front es b bs q c w at_front m l f g = came_later r i front es b bs (scan (i + 1) t bs)
    (f t (m.rules ∙ q) (counts_more i s t front b c m.taken m.sound) m.inside l)
came_move (Byte t) r i s front es b bs q c w at_front m l f g = came_run r i front es b bs (content (i + 1) t bs) (all_due s i front es c.sound at_front w)
    (g t (counts_more i s t front b c m.taken m.sound) m.inside l)
came_move (Give x t) r i s front es b bs q c w at_front m l f g =
    let one : i + 1 - i ≡ suc 0 = omega arith in
    let t1 : b ∷ [] ≡ take (i + 1 - i) (b ∷ bs) = sym (ap (λ n. take n (b ∷ bs)) one ∙ ap (λ z. b ∷ z) (take-none bs)) in (
      omega arith,
      omega arith,
      subst (λ z. StandsAfter t (front ++ z) (es ++ event_of x ∷ [])) t1 l,
      due_before front es (i + 1 - 1 - i) (b ∷ bs) (omega arith) (all_due s i front es c.sound at_front w),
    )
came_move (Refuse x) r i s front es b bs q c w at_front m l f g =
    let none : i - i ≡ 0 = omega arith in
    let t0 : take (i - i) (b ∷ bs) ≡ [] = ap (λ n. take n (b ∷ bs)) none in (
      omega arith,
      omega arith,
      b,
      bs,
      ap (λ z. z ++ b ∷ bs) (sym t0),
      subst (λ z. RefusedAt r (front ++ z) es b i x) (sym t0) (subst (λ z. RefusedAt r z es b i x) (sym (append-nil front))
          (record {
            before = s;
            rules = q;
            sound = c.sound;
            taken = c.taken;
            stands = w;
            looked = at_front;
            cause =
                subst (λ z. IsRefusedFor z (front ++ b ∷ []) x) q l;
          })),
    )

-- what comes of a scan, from a place that stands after its front
pub came_scan : (r : Rules) (i : ℕ) (s : Place) (front : List ℕ) (es : List Event) (p : List ℕ) → IsText p → rules_of s ≡ r → HasCountsOf s i front →
    IsLookedAt s.token i → StandsAfter s front es → Came r i front es p (scan i s p)
came_scan r i s front es [] text q c at_front w = (omega arith, at_front, subst (λ z. StandsAfter s z es) (sym (append-nil front)) w)
came_scan r i s front es (b ∷ bs) text q c at_front w =
    came_move (next s (i + 1) b) r i s front es b bs q c w at_front (is_move s.token s i b c.sound (λ z. (at_front z).1))
    (each_leads s.token s i b front es text.0 c at_front w)
    (λ t q' d z l. came_scan r (i + 1) t (front ++ b ∷ []) es bs text.1 q' d (looked_at t.token (i + 1) z) l)
    (λ t d z l. came_content (i + 1) t (front ++ b ∷ []) (es ++ e.Byte b ∷ []) bs text.1 d z l)
