-- What was heard, without the numbers of its replies.
use Rattle.std.proofs.Common.{◌≡◌, ℕ, List, [], ◌∷◌, ◌++◌, map, refl, ap, ◌∙◌}
use Rattle.std.proofs.lemmas.List.{map-append}
use Rattle.resp_value.specs.Data.{Datum}
use Rattle.resp_value.specs.Values.{datum_of}
use Rattle.resp_value.specs.declared.value.Value.{Value}

without_numbers : (heard : List (ℕ × Value)) →
    map datum_of (map (λ (r : ℕ × Value). r.1) heard) ≡ map (λ (r : ℕ × Datum). r.1) (map (λ (r : ℕ × Value). (r.0, datum_of r.1)) heard)
without_numbers [] = refl
without_numbers (r ∷ heard) = ap (λ l. datum_of r.1 ∷ l) (without_numbers heard)

pub kept : (old new : List Value) (heard : List (ℕ × Value)) → new ≡ old ++ map (λ (r : ℕ × Value). r.1) heard →
    map datum_of new ≡ map datum_of old ++ map (λ (r : ℕ × Datum). r.1) (map (λ (r : ℕ × Value). (r.0, datum_of r.1)) heard)
kept old new heard is =
    ap (map datum_of) is ∙ map-append datum_of old (map (λ (r : ℕ × Value). r.1) heard) ∙ ap (λ l. map datum_of old ++ l) (without_numbers heard)
