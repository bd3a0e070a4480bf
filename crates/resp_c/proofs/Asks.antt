-- What waits, as numbers of the caller's say it.
use Rattle.std.proofs.Common.{◌≡◌, ℕ, zero, suc, ◌+◌, [], ◌∷◌, ◌++◌, length, None, refl, ap, ◌∙◌, arith, add-one, append_assoc, append-nil, length-append}
use Rattle.resp_c.specs.Pairs.{ask_of, hello_asks, nones}

length-nones : (n : ℕ) → length (nones n) ≡ n
length-nones zero = refl
length-nones (suc n) = ap suc (length-nones n)

-- the commands that wait if no HELLO waits, and if one does
pub length-plain : (a h b : ℕ) → h ≡ 0 → length (nones a ++ hello_asks h b) ≡ a
length-plain a zero b none = omega (arith, length-append (nones a) (hello_asks 0 b), length-nones a)
length-plain a (suc n) b none = absurd (omega (arith, none))

pub length-hello : (a h b : ℕ) → (h ≡ 0 → ⊥) → length (nones a ++ hello_asks h b) ≡ a + b + 1
length-hello a zero b some = absurd (some refl)
length-hello a (suc n) b some = omega (arith, length-append (nones a) (hello_asks (suc n) b), length-nones a, length-nones b)

nones-after : (n : ℕ) → None ∷ nones n ≡ nones n ++ None ∷ []
nones-after zero = refl
nones-after (suc n) = ap (λ asks. None ∷ asks) (nones-after n)

nones-more : (n : ℕ) → nones (n + 1) ≡ nones n ++ None ∷ []
nones-more n = ap nones (add-one n) ∙ nones-after n

pub queued_before : (a h b hello : ℕ) → h ≡ 0 → hello ≡ 0 →
    nones (a + 1) ++ hello_asks h b ≡ (nones a ++ hello_asks h b) ++ ask_of hello ∷ []
queued_before a h b hello none plain = grind (arith, nones-more, append-nil)

pub queued_beyond : (a h b hello : ℕ) → (h ≡ 0 → ⊥) → hello ≡ 0 →
    nones a ++ hello_asks h (b + 1) ≡ (nones a ++ hello_asks h b) ++ ask_of hello ∷ []
queued_beyond a h b hello some plain = grind (arith, nones-more, append_assoc)
