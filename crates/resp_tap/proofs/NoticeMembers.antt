-- Members that are no confirmation.
use Rattle.std.proofs.Common.{◌≡◌, ℕ, List, [], ◌∷◌, length, map, refl}
use Rattle.resp_value.specs.Data.{data_of_list}
use Rattle.resp_value.specs.Values.{datum_of}
use Rattle.resp_value.specs.declared.value.Value.{Value}
use Rattle.resp_tap.specs.Notices.{members_by, message_by}

-- only two members after the first are those of a confirmation
pub other_number : (word : List ℕ) (rest : List Value) → (length rest ≡ 2 → ⊥) →
    message_by word ≡ members_by word (data_of_list (map datum_of rest))
other_number word [] other = refl
other_number word (x ∷ []) other = refl
other_number word (x ∷ y ∷ []) other = absurd (other refl)
other_number word (x ∷ y ∷ z ∷ rest) other = refl
