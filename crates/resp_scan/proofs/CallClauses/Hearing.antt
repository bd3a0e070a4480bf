-- What a listener has heard: events told one after another.
use Rattle.std.specs.Prelude.{MatchBool, true, false}
use Rattle.std.proofs.Common.{◌≡◌, ℕ, Bool, List, [], ◌∷◌, ◌++◌, refl, sym, ap, subst, ◌∙◌, append_assoc, append-nil, length-append, arith}
use Rattle.resp_fronts.specs.Events as e
use Rattle.resp_scan.specs.Counts.{close_count, open_count}
use Rattle.resp_scan.specs.Kinds.{content_events}
use Rattle.resp_scan.specs.Reading.{Events}
use Rattle.resp_scan.specs.Listening.{Hears, MayBeGiven, StopsWithin}
use Rattle.resp_scan.proofs.DueEvents.Opens.{closes-append, opens-append}

-- the first of events that may be given may be given, where those after them open and close nothing
pub fewer_may_be : (given more : Events) → open_count more ≡ 0 → close_count more ≡ 0 → MayBeGiven (given ++ more) → MayBeGiven given
fewer_may_be given more opens closes m = record {
  rules = m.rules;
  front = m.front;
  limits_in_range = m.limits_in_range;
  viable = m.viable;
  first_due = λ rest whole spells. let d = m.first_due rest whole spells in (more ++ d.0, d.1 ∙ append_assoc given more d.0);
  few = omega (arith, m.few, length-append given more);
  opened = omega (arith, m.opened, opens, closes, opens-append given more, closes-append given more);
  nested = omega (arith, m.nested, opens, closes, opens-append given more, closes-append given more);
}

-- a text's content and its end open and close nothing
pub content_level : (s : List ℕ) → (open_count (content_events s ++ e.TextEnd ∷ []) ≡ 0) × (close_count (content_events s ++ e.TextEnd ∷ []) ≡ 0)
content_level [] = (refl, refl)
content_level (c ∷ s) = let h = content_level s in (omega (arith, h.0), omega (arith, h.1))

-- where it is told nothing it has heard what it had
pub hears_nothing : {O : Type 0} (H S : O → Events → Type 0) → Hears H H S [] true
hears_nothing H S since given had may = subst (H since) (sym (append-nil given)) had

-- events told after others that it has heard, which open and close nothing
pub hears-append : {O : Type 0} (A B C S T : O → Events → Type 0) (xs ys : Events) (goes_on : Bool) → open_count ys ≡ 0 → close_count ys ≡ 0 →
    Hears A B S xs true → Hears B C T ys goes_on → Hears A C T (xs ++ ys) goes_on
hears-append A B C S T xs ys goes_on opens closes f g since given had may =
    let both : given ++ (xs ++ ys) ≡ (given ++ xs) ++ ys = sym (append_assoc given xs ys) in
    let may_both : MayBeGiven ((given ++ xs) ++ ys) = subst MayBeGiven both may in
    let heard : B since (given ++ xs) = f since given had (fewer_may_be (given ++ xs) ys opens closes may_both) in
    case goes_on (g since (given ++ xs) heard may_both)
  where
    case : (x : Bool) → MatchBool x (C since ((given ++ xs) ++ ys)) (StopsWithin (T since) (given ++ xs) ys) →
        MatchBool x (C since (given ++ (xs ++ ys))) (StopsWithin (T since) given (xs ++ ys))
    case true h = subst (C since) (append_assoc given xs ys) h
    case false h = record {
      told = xs ++ h.told;
      later = h.later;
      parts = ap (λ z. xs ++ z) h.parts ∙ sym (append_assoc xs h.told h.later);
      has_stopped = subst (T since) (append_assoc given xs h.told) h.has_stopped;
    }

-- Where it stops at the first events it is not told those after them.
pub stops-append : {O : Type 0} (A B S : O → Events → Type 0) (xs ys : Events) (since : O) (given : Events) → open_count ys ≡ 0 → close_count ys ≡ 0 →
    Hears A B S xs false → A since given → MayBeGiven (given ++ (xs ++ ys)) → StopsWithin (S since) given (xs ++ ys)
stops-append A B S xs ys since given opens closes f had may =
    let may_xs : MayBeGiven (given ++ xs) = fewer_may_be (given ++ xs) ys opens closes (subst MayBeGiven (sym (append_assoc given xs ys)) may) in
    let h : StopsWithin (S since) given xs = f since given had may_xs in
    record {
      told = h.told;
      later = h.later ++ ys;
      parts = ap (λ z. z ++ ys) h.parts ∙ append_assoc h.told h.later ys;
      has_stopped = h.has_stopped;
    }
