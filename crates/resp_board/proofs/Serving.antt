-- The clients of a board, after each call.
use Rattle.std.proofs.Common.{arith, ◌≡◌, ℕ, zero, suc, ◌<◌, ◌==◌, ◌&&◌, true, false, List, [], ◌∷◌, ◌++◌, Option, None, Some, IfSome, is_some, refl, sym, ap, subst, ◌∙◌, inl, inr}
use Rattle.std.specs.List.{AllByRecursion}
use Rattle.std.proofs.lemmas.Bool.{eq-eqb}
use Rattle.resp_board.specs.declared.desk.Desk.{Desk}
use Rattle.resp_board.specs.declared.seat.Seat.{Seat}
use Rattle.resp_board.specs.declared.ticket.ClientId.{ClientId}
use Rattle.resp_board.specs.Boards.{Entry, answer_at, is_same, part_answered, with_part}
use Rattle.resp_board.specs.Desks.{HasAnswers}
use Rattle.resp_board.specs.Joins.{HasOnePart}
use Rattle.resp_board.specs.Seats.{ChangesSeat, Serves, desk_in}
use Rattle.resp_board.specs.Tickets.{answer_to, answers_for}
use Rattle.resp_board.proofs.Tickets.{either, here, same-id, skip}

-- entries

pub entries-answered : (P : Entry → Type 0) → ((e : Entry) (part : ℕ) (text : List ℕ) → P e → P (with_part part text e)) → (es : List Entry) (k part : ℕ)
    (text : List ℕ) → AllByRecursion P es → AllByRecursion P (answer_at es k part text)
entries-answered P f [] k part text all = tt
entries-answered P f (e ∷ es) zero part text all = (f e part text all.0, all.1)
entries-answered P f (e ∷ es) (suc k) part text all = (all.0, entries-answered P f es k part text all.1)

pub entries-appended : (P : Entry → Type 0) (es : List Entry) (e : Entry) → P e → AllByRecursion P es → AllByRecursion P (es ++ e ∷ [])
entries-appended P [] e p all = (p, tt)
entries-appended P (x ∷ es) e p all = (all.0, entries-appended P es e p all.1)

one-part : (part : ℕ) (text : List ℕ) (a : Option (List ℕ)) → (b : Option (List ℕ)) × (part_answered part text (a ∷ []) ≡ b ∷ [])
one-part zero text a = (Some text, refl)
one-part (suc part) text a = (a, refl)

pub still-one : (e : Entry) (part : ℕ) (text : List ℕ) → HasOnePart e → HasOnePart (with_part part text e)
still-one e part text o =
    let r = one-part part text o.answer in
    record { answer = r.0; only = ap (part_answered part text) o.only ∙ r.1; same = o.same }

pub answers-more : (who : ClientId) (es : List Entry) (e : Entry) → is_same who e.client ≡ true →
    answers_for who (es ++ e ∷ []) ≡ answers_for who es ++ answer_to e ∷ []
answers-more who [] e mine = here who e [] mine
answers-more who (x ∷ es) e mine = elim (either (is_same who x.client)) [
  | inl his ↦
      here who x (es ++ e ∷ []) his ∙ ap (λ ys. answer_to x ∷ ys) (answers-more who es e mine) ∙
      sym (ap (λ ys. ys ++ answer_to e ∷ []) (here who x es his))
  | inr off ↦ skip who x (es ++ e ∷ []) off ∙ answers-more who es e mine ∙ sym (ap (λ ys. ys ++ answer_to e ∷ []) (skip who x es off))
]

pub answers-others : (who : ClientId) (es : List Entry) (e : Entry) → is_same who e.client ≡ false → answers_for who (es ++ e ∷ []) ≡ answers_for who es
answers-others who [] e off = skip who e [] off
answers-others who (x ∷ es) e off = elim (either (is_same who x.client)) [
  | inl his ↦ here who x (es ++ e ∷ []) his ∙ ap (λ ys. answer_to x ∷ ys) (answers-others who es e off) ∙ sym (here who x es his)
  | inr away ↦ skip who x (es ++ e ∷ []) away ∙ answers-others who es e off ∙ sym (skip who x es away)
]

eq-true : (a : ℕ) → (a == a) ≡ true
eq-true a = eq-eqb a a refl

pub same-self : (who : ClientId) → is_same who who ≡ true
same-self who = ap (λ b. b && (who.number == who.number)) (eq-true who.place) ∙ eq-true who.number

-- seats

pub served-change : (slots slots' : List (Option Seat)) (who : ClientId) (f : List (Option (List ℕ)) → List (Option (List ℕ))) (g : List ℕ → List ℕ)
    (es es' : List Entry) (given given' : ClientId → List ℕ) → ChangesSeat slots slots' who f g →
    answers_for who es' ≡ f (answers_for who es) → given' who ≡ g (given who) →
    ((other : ClientId) → is_same other who ≡ false → answers_for other es' ≡ answers_for other es) →
    ((other : ClientId) → is_same other who ≡ false → given' other ≡ given other) →
    ((x : ClientId) → Serves slots x (answers_for x es) (given x)) → (x : ClientId) → Serves slots' x (answers_for x es') (given' x)
served-change slots slots' who f g es es' given given' ch own gives others gives-others served x = elim (either (is_same x who)) [
  | inl mine ↦
      subst (λ y. Serves slots' y (answers_for y es') (given' y)) (sym (same-id x who mine))
      (subst (λ a. Serves slots' who a (given' who)) (sym own)
      (subst (λ t. Serves slots' who (f (answers_for who es)) t) (sym gives) (ch.itself (answers_for who es) (given who) (served who))))
  | inr off ↦
      subst (λ o. IfSome o (λ d. HasAnswers d (answers_for x es') (given' x))) (sym (ch.others x off))
      (subst (λ a. Serves slots x a (given' x)) (sym (others x off))
      (subst (λ t. Serves slots x (answers_for x es) t) (sym (gives-others x off)) (served x)))
]

none-is : (o : Option Desk) → is_some o ≡ false → o ≡ None
none-is None e = refl
none-is (Some d) e = absurd (grind arith)

pub seated-change : (slots slots' : List (Option Seat)) (who : ClientId) (f : List (Option (List ℕ)) → List (Option (List ℕ))) (g : List ℕ → List ℕ)
    (last : ℕ) → ChangesSeat slots slots' who f g → ((x : ClientId) → last < x.number → desk_in slots x ≡ None) → (x : ClientId) → last < x.number →
    desk_in slots' x ≡ None
seated-change slots slots' who f g last ch seated x above = elim (either (is_same x who)) [
  | inl mine ↦
      let e = same-id x who mine in
      ap (desk_in slots') e ∙
      none-is (desk_in slots' who) (ch.stays ∙ ap is_some (sym (ap (desk_in slots) e) ∙ seated x above))
  | inr off ↦ ch.others x off ∙ seated x above
]
