-- Which clients are among others.
use Rattle.std.proofs.Common.{◌≡◌, ℕ, zero, suc, Option, Some, slice_get, Bool, true, false, List, [], ◌∷◌, ◌++◌, refl, sym, ◌∙◌, ap, inl, inr}
use Rattle.std.proofs.lemmas.Bool.{cases_Bool, true≢false}
use Rattle.std.specs.Prelude.{◌||◌, unwrap_or}
use Rattle.std.proofs.Math.Bool.{or-false}
use Rattle.std.proofs.lemmas.List.Folds.{list_any-append}
use Rattle.resp_board.specs.declared.ticket.ClientId.{ClientId}
use Rattle.resp_board.specs.Runs.{is_among}
use Rattle.resp_board.specs.Boards.{is_same}
use Rattle.resp_board.proofs.Serving.{same-self}
use Rattle.resp_board.proofs.Tickets.{same-id}

neither : (x y : Bool) → (x || y) ≡ false → (x ≡ false) × (y ≡ false)
neither true y e = absurd (cc)
neither false y e = (refl, e)

-- a client that is not among these and one more
pub not_among : (who : ClientId) (xs ys : List ClientId) → is_among who (xs ++ ys) ≡ false → (is_among who xs ≡ false) × (is_among who ys ≡ false)
not_among who xs ys e = neither (is_among who xs) (is_among who ys) (sym (list_any-append (is_same who) xs ys) ∙ e)

pub not_one : (who other : ClientId) → is_among who (other ∷ []) ≡ false → is_same who other ≡ false
not_one who other e = sym (or-false (is_same who other)) ∙ e

pub none_of : (who other : ClientId) → is_same who other ≡ false → is_among who (other ∷ []) ≡ false
none_of who other differs = or-false (is_same who other) ∙ differs

or-true : (x : Bool) → (x || true) ≡ true
or-true true = refl
or-true false = refl

-- a client between others is among all
pub among_there : (who : ClientId) (xs ys : List ClientId) → is_among who (xs ++ who ∷ ys) ≡ true
among_there who xs ys =
    list_any-append (is_same who) xs (who ∷ ys) ∙ ap (λ b. is_among who xs || (b || is_among who ys)) (same-self who) ∙ or-true (is_among who xs)

-- a client that is not among these is another than one that is
pub is_other : (who other : ClientId) (clients : List ClientId) → is_among who clients ≡ false → is_among other clients ≡ true → is_same who other ≡ false
is_other who other clients none there =
    elim (cases_Bool (is_same who other)) [
      | inl same ↦ absurd (true≢false (sym there ∙ sym (ap (λ w. is_among w clients) (same-id who other same)) ∙ none))
      | inr differs ↦ differs
    ]

-- a client at some place is among all
pub among_at : (who : ClientId) (clients : List ClientId) (i : ℕ) → slice_get clients i ≡ Some who → is_among who clients ≡ true
among_at who [] zero e = absurd (cc)
among_at who [] (suc i) e = absurd (cc)
among_at who (c ∷ clients) zero e =
    ap (λ (o : Option ClientId). is_same who (unwrap_or o who) || is_among who clients) e ∙ ap (λ b. b || is_among who clients) (same-self who)
among_at who (c ∷ clients) (suc i) e =
    ap (λ b. is_same who c || b) (among_at who clients i e) ∙ or-true (is_same who c)

pub none_both : (who : ClientId) (xs ys : List ClientId) → is_among who xs ≡ false → is_among who ys ≡ false → is_among who (xs ++ ys) ≡ false
none_both who xs ys e f = list_any-append (is_same who) xs ys ∙ ap (λ b. b || is_among who ys) e ∙ f
