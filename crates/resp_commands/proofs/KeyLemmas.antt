-- The places of keys.
use Rattle.std.proofs.Common.{◌≡◌, ◌∙◌, ℕ, suc, ◌+◌, ◌-◌, ◌*◌, ◌<◌, ◌≤◌, List, drop, get_or, length, map, ap, arith}
use Rattle.std.proofs.Math.Seq.{drop-cons}
use Rattle.std.proofs.lemmas.Int.Digits.{number_after_ge}
use Rattle.std.specs.Int.Digits.{number_from_digits_after}
use Rattle.std.specs.Prelude.{if◌then◌else◌, ◌==◌}
use Rattle.resp_value.specs.Numbers.{IsNumber, number}
use Rattle.resp_commands.specs.Keys.{words_before}

-- of all words these are left, from this place on, and this many were found before the word
pub record Seen (keyword : List ℕ) (all words : List (List ℕ)) (place found : ℕ) : Type 0 where
  pub within : found ≤ place
  pub before : words_before keyword all ≡ (if found == place then place + words_before keyword words else found)

-- the number of the digits so far is too large, and so is that of all
pub too_large : (word : List ℕ) (i so_far digit most n : ℕ) → i < length word → digit ≡ get_or word i 0 - 48 →
    number word ≡ number_from_digits_after 10 so_far (map (λ digit. digit - 48) (drop i word)) → most < so_far * 10 + digit →
    IsNumber n word → n ≤ most → ⊥
too_large word i so_far digit most n within is value more counted small =
    let rest = map (λ digit. digit - 48) (drop (suc i) word) in
    let here : number word ≡ number_from_digits_after 10 (so_far * 10 + (get_or word i 0 - 48)) rest =
    value ∙ ap (λ bytes. number_from_digits_after 10 so_far (map (λ digit. digit - 48) bytes)) (drop-cons word i 0 within) in
    let grows : so_far * 10 + (get_or word i 0 - 48) ≤ number_from_digits_after 10 (so_far * 10 + (get_or word i 0 - 48)) rest =
    number_after_ge 10 (so_far * 10 + (get_or word i 0 - 48)) rest (omega arith) in
    absurd (omega (arith, here, grows, is, more, counted.1, small))
