-- Connections by their numbers, after a change of one.
use Rattle.std.proofs.Common.{◌≡◌, ◌⊎◌, inl, inr, ℕ, zero, suc, List, [], ◌∷◌, length, Some, refl, ap, arith}
use Rattle.resp_session.specs.Connections.{Connection}
use Rattle.resp_session.specs.Worlds.{connection_at, with_change}

-- the connection is the one that was changed, or was there before under another number
abbrev pub IsChanged : (Connection → Connection) → List Connection → ℕ → ℕ → Connection → Type 0
IsChanged f cs i j c =
    ((i ≡ j) × ((before : Connection) × (connection_at cs j ≡ Some before) × (c ≡ f before))) ⊎
    ((i ≡ j → ⊥) × (connection_at cs j ≡ Some c))

further : (f : Connection → Connection) (first : Connection) (cs : List Connection) (i j : ℕ) (c : Connection) → IsChanged f cs (suc i) (suc j) c →
    IsChanged f (first ∷ cs) (suc (suc i)) (suc (suc j)) c
further f first cs i j c (inl h) = inl (ap suc h.0, h.1)
further f first cs i j c (inr h) = inr (λ e. h.0 (omega (arith, e)), h.1)

pub is_changed : (f : Connection → Connection) (cs : List Connection) (i j : ℕ) (c : Connection) → connection_at (with_change f cs i) j ≡ Some c →
    IsChanged f cs i j c
is_changed f [] i j c e = absurd (cc)
is_changed f (first ∷ cs) zero zero c e = absurd (cc)
is_changed f (first ∷ cs) zero (suc j) c e = inr (λ h. omega (arith, h), e)
is_changed f (first ∷ cs) (suc zero) zero c e = absurd (cc)
is_changed f (first ∷ cs) (suc zero) (suc zero) c e = let h : c ≡ f first = cc in inl (refl, (first, refl, h))
is_changed f (first ∷ cs) (suc zero) (suc (suc j)) c e = inr (λ h. omega (arith, h), e)
is_changed f (first ∷ cs) (suc (suc i)) zero c e = absurd (cc)
is_changed f (first ∷ cs) (suc (suc i)) (suc zero) c e = inr (λ h. omega (arith, h), e)
is_changed f (first ∷ cs) (suc (suc i)) (suc (suc j)) c e = further f first cs i j c (is_changed f cs (suc i) (suc j) c e)

-- the connection that was changed
pub changed_at : (f : Connection → Connection) (cs : List Connection) (i : ℕ) (c : Connection) → connection_at cs i ≡ Some c →
    connection_at (with_change f cs i) i ≡ Some (f c)
changed_at f [] i c e = absurd (cc)
changed_at f (d ∷ cs) zero c e = absurd (cc)
changed_at f (d ∷ cs) (suc zero) c e = let h : d ≡ c = cc in ap (λ x. Some (f x)) h
changed_at f (d ∷ cs) (suc (suc i)) c e = changed_at f cs (suc i) c e

-- the others stay
pub others_stay : (f : Connection → Connection) (cs : List Connection) (i j : ℕ) → (j ≡ i → ⊥) →
    connection_at (with_change f cs i) j ≡ connection_at cs j
others_stay f [] i j other = refl
others_stay f (c ∷ cs) zero j other = refl
others_stay f (c ∷ cs) (suc zero) zero other = refl
others_stay f (c ∷ cs) (suc zero) (suc zero) other = absurd (other refl)
others_stay f (c ∷ cs) (suc zero) (suc (suc j)) other = refl
others_stay f (c ∷ cs) (suc (suc i)) zero other = refl
others_stay f (c ∷ cs) (suc (suc i)) (suc zero) other = refl
others_stay f (c ∷ cs) (suc (suc i)) (suc (suc j)) other = others_stay f cs (suc i) (suc j) (λ e. other (ap suc e))

-- there are as many
pub as_many : (f : Connection → Connection) (cs : List Connection) (i : ℕ) → length (with_change f cs i) ≡ length cs
as_many f [] i = refl
as_many f (c ∷ cs) zero = refl
as_many f (c ∷ cs) (suc zero) = refl
as_many f (c ∷ cs) (suc (suc i)) = ap suc (as_many f cs (suc i))
