-- Fronts of texts that were sent.
use Rattle.std.proofs.Common.{◌≡◌, ◌⊎◌, inl, inr, ℕ, ◌+◌, ◌-◌, ◌<◌, ◌≤◌, if◌then◌else◌, List, [], ◌∷◌, ◌++◌, length, take, refl, sym, ap, subst, ◌∙◌, arith, append_assoc, append-nil, length-append, add-one}
use Rattle.std.proofs.lemmas.Bool.{lt-ltb, le-ltb}
use Rattle.std.specs.List.{concat}
use Rattle.resp_value.specs.Data.{Datum}
use Rattle.resp_value.specs.Rules.{Rules, WithinTotal}
use Rattle.resp_value.specs.Spellings.{IsSpelling, AreSpellings}
use Rattle.resp_value.specs.Laws.{NoSpellingBeginsAnother, NoSpellingIsEmpty, FrontsOfSpellingsAreViable, TheEmptyTextIsViable}
use Rattle.resp_session.specs.AnswerLaws.{WhatComesIsWholeTexts}
use Rattle.resp_session.specs.Arrivals.{HasCome}
use Rattle.resp_session.specs.Connections.{whole_within}
use Rattle.resp_session.proofs.TextsInPieces.{Begins, one_begins}

pub none_of_nothing : NoSpellingIsEmpty → (r : Rules) (x : Datum) (next beyond : List ℕ) → IsSpelling r x next → [] ≡ next ++ beyond → ⊥
none_of_nothing full r x [] beyond s e = full r x s
none_of_nothing full r x (c ∷ cs) beyond s e = absurd (cc)

-- a front of a spelling that isn't whole begins no value
pub none_of_front : NoSpellingBeginsAnother → (r : Rules) (y : Datum) (text p : List ℕ) (c : ℕ) (q : List ℕ) → IsSpelling r y text → text ≡ p ++ c ∷ q →
    (x : Datum) (next beyond : List ℕ) → IsSpelling r x next → p ≡ next ++ beyond → ⊥
none_of_front apart r y text p c q s e x next beyond t f =
    let d = apart r r y x text next [] (beyond ++ c ∷ q) s t (append-nil text ∙ e ∙ ap (λ z. z ++ c ∷ q) f ∙ append_assoc next beyond (c ∷ q)) in
    let l = ap length d.2 in
    let m = length-append beyond (c ∷ q) in
    absurd (omega (arith, l, m))

pub short : (text came : List ℕ) (texts : List (List ℕ)) → length came < length text → whole_within (text ∷ texts) (length came) ≡ 0
short text came texts h = ap (λ b. if b then 0 else (whole_within texts (length came - length text) + 1)) (lt-ltb (length came) (length text) h)

pub long : (text came beyond : List ℕ) (texts : List (List ℕ)) → came ≡ text ++ beyond →
    whole_within (text ∷ texts) (length came) ≡ whole_within texts (length beyond) + 1
long text came beyond texts h =
    let l : length came ≡ length text + length beyond = ap length h ∙ length-append text beyond in
    let n : length came - length text ≡ length beyond = omega (arith, l) in
    let m : length text ≤ length came = omega (arith, l) in
    ap (λ b. if b then 0 else (whole_within texts (length came - length text) + 1)) (le-ltb (length came) (length text) m) ∙
    ap (λ k. whole_within texts k + 1) n

-- the first text came whole
one_more : (r : Rules) (x : Datum) (xs : List Datum) (text : List ℕ) (texts : List (List ℕ)) (came beyond : List ℕ) → IsSpelling r x text →
    came ≡ text ++ beyond → HasCome r xs texts beyond → HasCome r (x ∷ xs) (text ∷ texts) came
one_more r x xs text texts came beyond s e h = record {
  front = text ++ h.front;
  rest = h.rest;
  spelled = subst (λ k. AreSpellings r (take k (x ∷ xs)) (text ++ h.front)) (sym (long text came beyond texts e ∙ add-one (whole_within texts (length beyond))))
      (text, h.front, s, h.spelled, refl);
  whole = e ∙ ap (λ z. text ++ z) h.whole ∙ sym (append_assoc text h.front h.rest);
  no_more = h.no_more;
  viable = h.viable;
}

comes_by : NoSpellingBeginsAnother → FrontsOfSpellingsAreViable →
    (r : Rules) (x : Datum) (xs : List Datum) (text : List ℕ) (texts : List (List ℕ)) (came more : List ℕ) → IsSpelling r x text →
    ((beyond rest : List ℕ) → beyond ++ rest ≡ concat texts → HasCome r xs texts beyond) →
    Begins text came (concat texts) more ⊎ Begins came text more (concat texts) → HasCome r (x ∷ xs) (text ∷ texts) came
comes_by apart viable r x xs text texts came more s ih (inl (q, e, f)) = one_more r x xs text texts came q s e (ih q more (sym f))
comes_by apart viable r x xs text texts came more s ih (inr ([], e, f)) =
    one_more r x xs text texts came [] s (sym (e ∙ append-nil came) ∙ sym (append-nil text)) (ih [] (concat texts) refl)
comes_by apart viable r x xs text texts came more s ih (inr (c ∷ q, e, f)) =
    let l : length text ≡ length came + length (c ∷ q) = ap length e ∙ length-append came (c ∷ q) in
    let h : length came < length text = omega (arith, l) in
    record {
      front = [];
      rest = came;
      spelled = subst (λ k. AreSpellings r (take k (x ∷ xs)) []) (sym (short text came texts h)) refl;
      whole = refl;
      no_more = none_of_front apart r x text came c q s e;
      viable = viable r x came (c ∷ q) (subst (IsSpelling r x) e s) WithinTotal;
    }

pub comes : NoSpellingBeginsAnother → NoSpellingIsEmpty → FrontsOfSpellingsAreViable → TheEmptyTextIsViable → WhatComesIsWholeTexts
comes apart full viable empty r [] [] [] more bounds are e = record {
  front = [];
  rest = [];
  spelled = refl;
  whole = refl;
  no_more =
      none_of_nothing full r;
  viable = empty r bounds WithinTotal;
}
comes apart full viable empty r [] [] (c ∷ cs) more bounds are e = absurd (cc)
comes apart full viable empty r [] (text ∷ texts) came more bounds are e = absurd are
comes apart full viable empty r (x ∷ xs) [] came more bounds are e = absurd are
comes apart full viable empty r (x ∷ xs) (text ∷ texts) came more bounds are e =
    comes_by apart viable r x xs text texts came more are.0 (λ beyond rest f. comes apart full viable empty r xs texts beyond rest bounds are.1 f)
    (one_begins text came (concat texts) more (sym e))
