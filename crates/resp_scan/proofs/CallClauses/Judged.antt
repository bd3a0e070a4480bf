-- The scanner decides every text: it is viable, or has one cause at one first byte.
use Rattle.std.specs.Prelude.{false, cond, eqb}
use Rattle.std.proofs.lemmas.Bool.Decides.{nat_tests}
use Rattle.std.proofs.Common.{◌≡◌, ◌⊎◌, inl, inr, ℕ, zero, suc, ◌<◌, List, [], ◌∷◌, ◌++◌, length, refl, sym, ap, subst, ◌∙◌, arith, append_assoc, append-nil, length-append}
use Rattle.std.proofs.lemmas.Bool.{false≢true}
use Rattle.resp_value.specs.Bytes.{IsText}
use Rattle.resp_value.specs.Rules.{Rules, Rule, Grammar, WithinTotal}
use Rattle.resp_value.specs.Spellings.{FaultOf, IsCause, IsViable}
use Rattle.resp_value.specs.Trees.{text}
use Rattle.resp_value.proofs.Unique.{unique}
use Rattle.resp_value.proofs.ViabilityLaws.{a_rest_has_one_fault, fault_at_last}
use Rattle.resp_fronts.specs.Events as e
use Rattle.resp_fronts.proofs.Refusals.FirstRuleBroken.{grammar_cause}
use Rattle.resp_scan.specs.declared.frame.Frame.{Frame}
use Rattle.resp_scan.specs.declared.frame.Shape.{Shape}
use Rattle.resp_scan.specs.declared.frame.Shape.TheVariants.{Left, Begun}
use Rattle.resp_scan.specs.Machine.Scan.{out_from, out_at_end}
use Rattle.resp_scan.specs.Machine.Tokens.{Byte, Give, Go, Move, Place, Refuse, Token, at, at_boundary, token_at_boundary, AtStart, AtEnd, AtBigDigit, AtTextEnd, Dead, InBig}
use Rattle.resp_scan.specs.Machine.Moves.{next}
use Rattle.resp_scan.specs.Machine.StepOutcomes.{after_bytes}
use Rattle.resp_scan.specs.Kinds.{event_of, rules_of}
use Rattle.resp_scan.specs.Laws.{EveryTextIsJudged, HasOneFault}
use Rattle.resp_scan.specs.Machine.Sound.{IsSound, IsSoundBy}
use Rattle.resp_scan.specs.Machine.Standing as f
use Rattle.resp_scan.specs.Machine.Standing.{HasCountsOf, Leads, StandsAfter, StandsAfterAt}
use Rattle.resp_scan.proofs.TokenMoves.BigNumbersLead.{big_digit_is_owed, text_end_is_owed}
use Rattle.resp_scan.proofs.TokenMoves.ClosesLead.{close_is_owed}
use Rattle.resp_scan.proofs.Soundness.Counted.{sound_counted}
use Rattle.resp_scan.proofs.Soundness.Kept.{IsOut, is_advanced, sound_new}
use Rattle.resp_scan.proofs.CallClauses.LeastNeeded.{followed_is_viable}
use Rattle.resp_scan.proofs.TokenMoves.EachLeads.{IsLookedAt, each_leads}
use Rattle.resp_scan.proofs.Soundness.Sound.{is_move}
use Rattle.resp_scan.proofs.Soundness.SoundMoves.{IsMove, is_outside}

-- between two steps: what has come of the text
record Stands (r : Rules) (s : Place) (front : List ℕ) : Type 0 where
  pub sound : IsSound s
  pub rules : rules_of s ≡ r
  pub taken : s.taken ≡ length front
  pub events : List e.Event
  pub stands : StandsAfter s front events

-- nothing is owed: a byte is looked at, or a value is whole at the top
record Settled (r : Rules) (front : List ℕ) : Type 0 where
  pub place : Place
  pub stands : Stands r place front
  pub open_or_whole : IsLookedAt place.token 0 ⊎ f.IsWholeValue r front stands.events

-- at one byte a text stops being viable, for one rule
abbrev Fault : Rules → List ℕ → Type 0
Fault r whole = (rule : Rule) × (at : ℕ) × FaultOf r whole rule at

abbrev Judged : Rules → List ℕ → Type 0
Judged r whole = IsViable r WithinTotal whole ⊎ Fault r whole

-- Faults.

-- a refused byte is where the text stops being viable
fault_here : (r : Rules) (front : List ℕ) (b : ℕ) (bs : List ℕ) (rule : Rule) → IsViable r WithinTotal front → IsCause r (front ++ b ∷ []) rule →
    Fault r (front ++ b ∷ bs)
fault_here r front b bs rule viable cause = (
  rule,
  length front,
  subst (λ z. FaultOf r z rule (length front)) (append_assoc front (b ∷ []) bs)
      (fault_at_last r front bs b rule viable cause),
)

judged_more : (r : Rules) (front : List ℕ) (b : ℕ) (bs : List ℕ) → Judged r ((front ++ b ∷ []) ++ bs) → Judged r (front ++ b ∷ bs)
judged_more r front b bs h = subst (Judged r) (append_assoc front (b ∷ []) bs) h

followed : (r : Rules) (s : Place) (front : List ℕ) → Stands r s front → IsViable r WithinTotal front
followed r s front w = subst (λ x. IsViable x WithinTotal front) w.rules (followed_is_viable s 0 front w.events w.sound (omega (arith, w.taken)) w.stands)

-- What is owed.

looked_at_start : IsLookedAt AtStart 0
looked_at_start h = (refl, refl)

-- a counted aggregate closes, and with it each around it that it fills
settle : (r : Rules) (fs : List Frame) (s : Place) (front : List ℕ) (es : List e.Event) → rules_of s ≡ r → s.taken ≡ length front →
    IsSound (at_boundary (record s { frames = fs })) → StandsAfterAt (rules_of s) (token_at_boundary fs) fs front es → Settled r front
settle r [] s front es q t c w = record {
  place = record s { token = AtEnd; frames = [] };
  stands =
      record { sound = c; rules = q; taken = t; events = es; stands = w };
  open_or_whole = inr (subst (λ x. f.IsWholeValue x front es) q w);
}
settle r (x ∷ fs) s front es q t c w = by_shape x.shape c w (λ told d l. settle r fs s front told q t d l)
  where
    by_shape : (shape : Shape) → IsSound (at_boundary (record s { frames = record x { shape = shape } ∷ fs })) →
        StandsAfterAt (rules_of s) (token_at_boundary (record x { shape = shape } ∷ fs)) (record x { shape = shape } ∷ fs) front es →
        ((told : List e.Event) → IsSound (at_boundary (record s { frames = fs })) → StandsAfterAt (rules_of s) (token_at_boundary fs) fs front told →
        Settled r front) → Settled r front
    by_shape (Left zero) c w close =
        let p = record s { token = AtEnd; frames = record x { shape = Left 0 } ∷ fs } in
        let next_one : IsOut p (out_at_end p p.frames) = is_advanced p [] c in
        close (es ++ e.Close ∷ []) next_one.0.sound (close_is_owed s (record x { shape = Left 0 }) fs front es w)
    by_shape (Left (suc n)) c w close =
        let z : eqb (suc n) 0 ≡ false = grind (arith, nat_tests) in
        let p = record s { token = AtStart; frames = record x { shape = Left (suc n) } ∷ fs } in
        record {
          place = p;
          stands = record {
            sound = subst (λ v. IsSound (record p { token = cond v AtEnd AtStart })) z c;
            rules = q;
            taken = t;
            events = es;
            stands =
                subst (λ v. StandsAfterAt (rules_of s) (cond v AtEnd AtStart) p.frames front es) z w;
          };
          open_or_whole = inl looked_at_start;
        }
    by_shape (Begun n) c w close = record {
      place = record s { token = AtStart; frames = record x { shape = Begun n } ∷ fs };
      stands =
          record { sound = c; rules = q; taken = t; events = es; stands = w };
      open_or_whole = inl looked_at_start;
    }

settled_here : (r : Rules) (s : Place) (front : List ℕ) (w : Stands r s front) → is_outside s.token ≡ false → Settled r front
settled_here r s front w e = record { place = s; stands = w; open_or_whole = inl (λ h. absurd (false≢true (sym e ∙ h))) }

settle_at : (t : Token) (r : Rules) (s : Place) (front : List ℕ) → Stands r (at s t) front → Settled r front
settle_at AtStart r s front w = record { place = at s AtStart; stands = w; open_or_whole = inl looked_at_start }
settle_at AtEnd r s front w = end_at s.frames w
  where
    end_at : (fs : List Frame) → Stands r (record s { token = AtEnd; frames = fs }) front → Settled r front
    end_at [] w = settle r [] s front w.events w.rules w.taken w.sound w.stands
    end_at (x ∷ fs) w =
        let p = record s { token = AtEnd; frames = x ∷ fs } in
        let next_one : IsOut p (out_at_end p p.frames) = is_advanced p [] w.sound in
        settle r fs s front (w.events ++ e.Close ∷ []) w.rules w.taken next_one.0.sound (close_is_owed s x fs front w.events w.stands)
settle_at AtTextEnd r s front w =
    let next_one : IsOut (at s AtTextEnd) (out_from (at s AtTextEnd) []) = is_advanced (at s AtTextEnd) [] w.sound in
    settle r s.frames s front (w.events ++ e.TextEnd ∷ []) w.rules w.taken next_one.0.sound (text_end_is_owed s front w.events w.stands)
settle_at (AtBigDigit digit room) r s front w =
    let next_one : IsOut (at s (AtBigDigit digit room)) (out_from (at s (AtBigDigit digit room)) []) = is_advanced (at s (AtBigDigit digit room)) [] w.sound in
    settled_here r (at s (InBig room)) front (record {
      sound = next_one.0.sound;
      rules = w.rules;
      taken = w.taken;
      events =
          w.events ++ e.Byte digit ∷ [];
      stands = big_digit_is_owed s digit room front w.events w.stands;
    }) refl
settle_at (Dead c) r s front w = absurd w.stands.took
settle_at token r s front w = settled_here r (at s token) front w refl

-- One byte.

-- a byte after a whole value
after_whole : (r : Rules) (front : List ℕ) (es : List e.Event) (b : ℕ) → f.IsWholeValue r front es → IsCause r (front ++ b ∷ []) Grammar
after_whole r front es b w = grammar_cause r (front ++ b ∷ []) (λ rest c.
    let u = unique w.tree c.tree (b ∷ rest) [] w.is_tree c.is_tree (ap (λ z. z ++ b ∷ rest) (sym w.whole) ∙ sym (append_assoc front (b ∷ []) rest) ∙
    sym c.whole ∙ sym (append-nil (text c.tree))) in
    let n : suc (length rest) ≡ 0 = ap length u.1 in
    omega (arith, n))

stands_after : (r : Rules) (s t : Place) (front : List ℕ) (b : ℕ) (es : List e.Event) → Stands r s front → t.taken ≡ s.taken → rules_of t ≡ rules_of s →
    IsSoundBy 1 t → StandsAfter t (front ++ b ∷ []) es → Stands r (after_bytes 1 t) (front ++ b ∷ [])
stands_after r s t front b es w same rules sound stands = record {
  sound = sound_counted t 1 sound;
  rules = rules ∙ w.rules;
  taken = omega (arith, w.taken, same, length-append front (b ∷ []));
  events = es;
  stands = stands;
}

judge_move : (v : Move) (r : Rules) (s : Place) (front : List ℕ) (b : ℕ) (bs : List ℕ) → (w : Stands r s front) → IsMove 1 s v → Leads s front w.events b v →
    ((t : Place) → Stands r t (front ++ b ∷ []) → Judged r ((front ++ b ∷ []) ++ bs)) → Judged r (front ++ b ∷ bs)
judge_move (Go t) r s front b bs w m l f = judged_more r front b bs (f (after_bytes 1 t) (stands_after r s t front b w.events w m.taken m.rules m.sound l))
judge_move (Byte t) r s front b bs w m l f = judged_more r front b bs
    (f (after_bytes 1 t) (stands_after r s t front b (w.events ++ e.Byte b ∷ []) w m.taken m.rules m.sound l))
judge_move (Give x t) r s front b bs w m l f = judged_more r front b bs
    (f (after_bytes 1 t) (stands_after r s t front b (w.events ++ event_of x ∷ []) w m.0.taken m.0.rules m.0.sound l))
judge_move (Refuse c) r s front b bs w m l f = inr (fault_here r front b bs l.rule (followed r s front w)
    (subst (λ x. IsCause x (front ++ b ∷ []) l.rule) w.rules l.cause))

judge_byte : (r : Rules) (s : Place) (front : List ℕ) (b : ℕ) (bs : List ℕ) → b < 256 → (w : Stands r s front) →
    IsLookedAt s.token 0 ⊎ f.IsWholeValue r front w.events → ((t : Place) → Stands r t (front ++ b ∷ []) → Judged r ((front ++ b ∷ []) ++ bs)) →
    Judged r (front ++ b ∷ bs)
judge_byte r s front b bs is_byte w (inl looked) f =
    judge_move (next s 1 b) r s front b bs w (is_move s.token s 0 b w.sound (λ h. refl))
    (each_leads s.token s 0 b front w.events is_byte (record { sound = w.sound; taken = omega (arith, w.taken) }) looked w.stands) f
judge_byte r s front b bs is_byte w (inr whole) f = inr (fault_here r front b bs Grammar (followed r s front w) (after_whole r front w.events b whole))

-- Every byte.

judge : (r : Rules) (s : Place) (front rest : List ℕ) → IsText rest → Stands r s front → Judged r (front ++ rest)
judge r s front [] bytes w = inl (subst (IsViable r WithinTotal) (sym (append-nil front)) (followed r s front w))
judge r s front (b ∷ bs) bytes w =
    let z = settle_at s.token r s front w in
    judge_byte r z.place front b bs bytes.0 z.stands z.open_or_whole (λ t x. judge r t (front ++ b ∷ []) bs bytes.1 x)

-- every text is viable or has one fault
pub every_text_is_judged : EveryTextIsJudged
every_text_is_judged r whole bounds bytes = one (judge r (record {
  token = AtStart;
  frames = [];
  version = r.version;
  bounds = r.limits;
  taken =
      0;
  frames_need = 0;
}) [] whole bytes at_first)
  where
    at_first : Stands r (record { token = AtStart; frames = []; version = r.version; bounds = r.limits; taken = 0; frames_need = 0 }) []
    at_first = record {
      sound = sound_new r.version r.limits [] bounds refl;
      rules = refl;
      taken = refl;
      events = [];
      stands = record { frames = []; begun = tt; of_levels = tt; ready = tt; whole = refl; told = refl };
    }

    one : Judged r whole → IsViable r WithinTotal whole ⊎ HasOneFault r whole
    one (inl v) = inl v
    one (inr (rule, place, fault)) = inr (rule, place, fault, λ other there w. a_rest_has_one_fault r whole other rule there place w fault)
