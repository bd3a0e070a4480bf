-- A client's commands by their numbers among its own.
use Rattle.std.proofs.Common.{arith, ◌≡◌, ◌⊎◌, ℕ, zero, suc, ◌==◌, ◌&&◌, Bool, true, false, List, [], ◌∷◌, Option, None, Some, slice_set, refl, sym, ap, subst, ◌∙◌, cond, inl, inr}
use Rattle.std.proofs.lemmas.Bool.{cases_eq, ne_eqb}
use Rattle.resp_board.specs.declared.ticket.ClientId.{ClientId}
use Rattle.resp_board.specs.Boards.{Entry, answer_at, is_same, with_part}
use Rattle.resp_board.specs.Laws.{FindsCommand}
use Rattle.resp_board.specs.Tickets.{answer_to, answers_for, command_of, place_of}

eqb-eq : (a b : ℕ) → (a == b) ≡ true → a ≡ b
eqb-eq a b e = elim (cases_eq a b) [
  | inl same ↦ same
  | inr apart ↦ let wrong : true ≡ false = sym e ∙ ne_eqb a b apart in absurd (grind arith)
]

both-left : (a b : Bool) → (a && b) ≡ true → a ≡ true
both-left true b e = refl
both-left false true e = e
both-left false false e = e

both-right : (a b : Bool) → (a && b) ≡ true → b ≡ true
both-right true b e = e
both-right false true e = refl
both-right false false e = e

pub same-id : (a b : ClientId) → is_same a b ≡ true → a ≡ b
same-id a b same =
    ap (λ n. record { place = n; number = a.number }) (eqb-eq a.place b.place (both-left (a.place == b.place) (a.number == b.number) same)) ∙
    ap (λ n. record { place = b.place; number = n }) (eqb-eq a.number b.number (both-right (a.place == b.place) (a.number == b.number) same))

-- another client's command is none of a client's
apart-from : (who other : ClientId) (e : Entry) → is_same other who ≡ false → is_same who e.client ≡ true → is_same other e.client ≡ false
apart-from who other e off same = subst (λ c. is_same other c ≡ false) (same-id who e.client same) off

pub either : (b : Bool) → (b ≡ true) ⊎ (b ≡ false)
either true = inl refl
either false = inr refl

pub here : (who : ClientId) (e : Entry) (es : List Entry) → is_same who e.client ≡ true → answers_for who (e ∷ es) ≡ answer_to e ∷ answers_for who es
here who e es same = ap (λ b. cond b (answer_to e ∷ answers_for who es) (answers_for who es)) same

pub skip : (who : ClientId) (e : Entry) (es : List Entry) → is_same who e.client ≡ false → answers_for who (e ∷ es) ≡ answers_for who es
skip who e es off = ap (λ b. cond b (answer_to e ∷ answers_for who es) (answers_for who es)) off

same-tail : (who : ClientId) (e : Entry) (xs ys : List Entry) → answers_for who xs ≡ answers_for who ys → answers_for who (e ∷ xs) ≡ answers_for who (e ∷ ys)
same-tail who e xs ys same = ap (λ zs. cond (is_same who e.client) (answer_to e ∷ zs) zs) same

pub some-is : (e f : Entry) → Some e ≡ Some f → e ≡ f
some-is e f same = ap (λ o. or-else e o) same
  where
    or-else : Entry → Option Entry → Entry
    or-else d None = d
    or-else d (Some x) = x

pub own : (who : ClientId) (n : ℕ) (es : List Entry) (e : Entry) (part : ℕ) (text : List ℕ) → command_of who n es ≡ Some e →
    answers_for who (answer_at es (place_of who n es) part text) ≡ slice_set (answers_for who es) n (answer_to (with_part part text e))
own who n [] e part text h = absurd (grind arith)
own who zero (x ∷ es) e part text h = elim (either (is_same who x.client)) [
  | inl same ↦
      let it : x ≡ e = some-is x e (sym (ap (λ b. cond b (Some x) (command_of who zero es)) same) ∙ h) in
      ap (λ b. answers_for who (answer_at (x ∷ es) (cond b 0 (suc (place_of who zero es))) part text)) same ∙
      here who (with_part part text x) es same ∙
      ap (λ y. answer_to (with_part part text y) ∷ answers_for who es) it ∙
      sym (ap (λ zs. slice_set zs 0 (answer_to (with_part part text e))) (here who x es same))
  | inr off ↦
      ap (λ b. answers_for who (answer_at (x ∷ es) (cond b 0 (suc (place_of who zero es))) part text)) off ∙
      skip who x (answer_at es (place_of who zero es) part text) off ∙
      own who zero es e part text (sym (ap (λ b. cond b (Some x) (command_of who zero es)) off) ∙ h) ∙
      sym (ap (λ zs. slice_set zs 0 (answer_to (with_part part text e))) (skip who x es off))
]
own who (suc n) (x ∷ es) e part text h = elim (either (is_same who x.client)) [
  | inl same ↦
      ap (λ b. answers_for who (answer_at (x ∷ es) (cond b (suc (place_of who n es)) (suc (place_of who (suc n) es))) part text)) same ∙
      here who x (answer_at es (place_of who n es) part text) same ∙
      ap (λ zs. answer_to x ∷ zs) (own who n es e part text (sym (ap (λ b. cond b (command_of who n es) (command_of who (suc n) es)) same) ∙ h)) ∙
      sym (ap (λ zs. slice_set zs (suc n) (answer_to (with_part part text e))) (here who x es same))
  | inr off ↦
      ap (λ b. answers_for who (answer_at (x ∷ es) (cond b (suc (place_of who n es)) (suc (place_of who (suc n) es))) part text)) off ∙
      skip who x (answer_at es (place_of who (suc n) es) part text) off ∙
      own who (suc n) es e part text (sym (ap (λ b. cond b (command_of who n es) (command_of who (suc n) es)) off) ∙ h) ∙
      sym (ap (λ zs. slice_set zs (suc n) (answer_to (with_part part text e))) (skip who x es off))
]

pub others : (who : ClientId) (n : ℕ) (es : List Entry) (part : ℕ) (text : List ℕ) (other : ClientId) → is_same other who ≡ false →
    answers_for other (answer_at es (place_of who n es) part text) ≡ answers_for other es
others who n [] part text other off = refl
others who zero (x ∷ es) part text other off = elim (either (is_same who x.client)) [
  | inl same ↦
      ap (λ b. answers_for other (answer_at (x ∷ es) (cond b 0 (suc (place_of who zero es))) part text)) same ∙
      skip other (with_part part text x) es (apart-from who other x off same) ∙ sym (skip other x es (apart-from who other x off same))
  | inr away ↦
      ap (λ b. answers_for other (answer_at (x ∷ es) (cond b 0 (suc (place_of who zero es))) part text)) away ∙
      same-tail other x (answer_at es (place_of who zero es) part text) es (others who zero es part text other off)
]
others who (suc n) (x ∷ es) part text other off = elim (either (is_same who x.client)) [
  | inl same ↦
      ap (λ b. answers_for other (answer_at (x ∷ es) (cond b (suc (place_of who n es)) (suc (place_of who (suc n) es))) part text)) same ∙
      same-tail other x (answer_at es (place_of who n es) part text) es (others who n es part text other off)
  | inr away ↦
      ap (λ b. answers_for other (answer_at (x ∷ es) (cond b (suc (place_of who n es)) (suc (place_of who (suc n) es))) part text)) away ∙
      same-tail other x (answer_at es (place_of who (suc n) es) part text) es (others who (suc n) es part text other off)
]

pub finds : (who : ClientId) (n : ℕ) (es : List Entry) (e : Entry) (part : ℕ) (text : List ℕ) → command_of who n es ≡ Some e →
    FindsCommand who n es e part text
finds who n es e part text h = record { own = own who n es e part text h; others = others who n es part text }
