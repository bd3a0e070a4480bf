-- Keys at fixed places, and further keys.
use Rattle.std.proofs.Common.{◌≡◌, ℕ, List, length, inl, inr, sym, subst, arith}
use Rattle.resp_commands.specs.declared.command.Keys.{Keys}
use Rattle.resp_commands.specs.declared.command.Search.{Search}
use Rattle.resp_commands.specs.declared.keys.Places.{Places}
use Rattle.resp_commands.specs.Keys.{IsAmong, IsAmongAny, IsCountedKey, IsFixedKey, IsFurtherKey, IsKey, TellsNoKeys}

-- keys at fixed places, and further ones of one kind
pub two_kinds : (keys : Keys) (arguments : List (List ℕ)) (fixed further : Places) (count place : ℕ) → count ≡ length arguments →
    ((IsAmong fixed place → IsFixedKey keys count place) × (IsFixedKey keys count place → IsAmong fixed place)) →
    ((IsAmong further place → IsFurtherKey keys.search keys.start arguments place) ×
    (IsFurtherKey keys.search keys.start arguments place → IsAmong further place)) →
    (IsAmongAny (record { fixed = fixed; further = further; other = record { after = 0; last = 0; step = 1 } }) place → IsKey keys arguments place) ×
    (IsKey keys arguments place → IsAmongAny (record { fixed = fixed; further = further; other = record { after = 0; last = 0; step = 1 } }) place)
two_kinds keys arguments fixed further count place number at_fixed at_further = (
  λ here.
      elim here [
        | inl f ↦ inl (subst (λ n. IsFixedKey keys n place) number (at_fixed.0 f))
        | inr rest ↦
            elim rest [
              | inl f ↦ inr (at_further.0 f)
              | inr other ↦ absurd (omega (arith, other.above, other.within))
            ]
      ],
  λ key.
      elim key [
        | inl f ↦ inl (at_fixed.1 (subst (λ n. IsFixedKey keys n place) (sym number) f))
        | inr f ↦ inr (inl (at_further.1 f))
      ],
)

-- places of further keys are those of the search that the row names
pub by_search : (keys : Keys) (search : Search) (arguments : List (List ℕ)) (further : Places) (place : ℕ) → keys.search ≡ search →
    ((IsAmong further place → IsFurtherKey search keys.start arguments place) ×
    (IsFurtherKey search keys.start arguments place → IsAmong further place)) →
    (IsAmong further place → IsFurtherKey keys.search keys.start arguments place) ×
    (IsFurtherKey keys.search keys.start arguments place → IsAmong further place)
by_search keys search arguments further place is at = (
  λ here. subst (λ s. IsFurtherKey s keys.start arguments place) (sym is) (at.0 here),
  λ key. at.1 (subst (λ s. IsFurtherKey s keys.start arguments place) is key),
)

-- without a number of keys there are no further ones
no_further : (keys : Keys) (arguments : List (List ℕ)) (place : ℕ) → TellsNoKeys keys arguments →
    IsFurtherKey keys.search keys.start arguments place → ⊥
no_further keys arguments place none key =
    let counted : IsCountedKey keys.start arguments place = subst (λ s. IsFurtherKey s keys.start arguments place) none.0 key in
    none.1 counted.count counted.has

-- without a number of keys the places of the keys are fixed
pub one_kind : (keys : Keys) (arguments : List (List ℕ)) (fixed : Places) (count place : ℕ) → count ≡ length arguments →
    TellsNoKeys keys arguments → ((IsAmong fixed place → IsFixedKey keys count place) × (IsFixedKey keys count place → IsAmong fixed place)) →
    (IsAmongAny (record { fixed = fixed; further = record { after = 0; last = 0; step = 1 }; other = record { after = 0; last = 0; step = 1 } }) place →
    IsKey keys arguments place) ×
    (IsKey keys arguments place →
    IsAmongAny (record { fixed = fixed; further = record { after = 0; last = 0; step = 1 }; other = record { after = 0; last = 0; step = 1 } }) place)
one_kind keys arguments fixed count place number none at_fixed =
    two_kinds keys arguments fixed (record { after = 0; last = 0; step = 1 }) count place number at_fixed
    (λ here. absurd (omega (arith, here.above, here.within)), λ key. absurd (no_further keys arguments place none key))
