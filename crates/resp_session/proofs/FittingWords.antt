-- Words within the limits, and the command that is sent for them.
use Rattle.std.proofs.Common.{◌≡◌, inl, inr, ℕ, ◌<◌, ◌≤◌, List, [], ◌∷◌, length, map, refl, arith}
use Rattle.std.proofs.lemmas.Bool.{cases_lt}
use Rattle.std.specs.List.{AllByRecursion}
use Rattle.resp_value.specs.Bounds.{Bounds, AreBounds}
use Rattle.resp_value.specs.Bytes.{IsText}
use Rattle.resp_value.specs.Canonical.{canonical_text, Fits}
use Rattle.resp_value.specs.Data.{data_of_list, greatest_depth, longest, most_items}
use Rattle.resp_value.specs.Rules.{rules_under}
use Rattle.resp_value.specs.Words.{word_datum, command_of}
use Rattle.resp_value.specs.declared.version.Version.TheVariants.{Two}
use Rattle.resp_value.proofs.CommandValues.{words_are_in_two, words_have_no_double, words_have_no_push}

words_have_no_depth : (words : List (List ℕ)) → greatest_depth (data_of_list (map word_datum words)) ≡ 0
words_have_no_depth [] = refl
words_have_no_depth (word ∷ words) = let h = words_have_no_depth words in omega (arith, h)

-- what isn't too large is within the limit
pub within : (n limit : ℕ) → (limit < n → ⊥) → n ≤ limit
within n limit h = elim (cases_lt limit n) as (λ _. n ≤ limit) [
  | inl l ↦ absurd (h l)
  | inr l ↦ l
]

-- words that are within the limits fit, where their command's text does
pub words_within_fit : (limits : Bounds) (words : List (List ℕ)) → AreBounds limits → longest (command_of words) ≤ limits.length →
    most_items (command_of words) ≤ limits.items → length (canonical_text Two (command_of words)) ≤ limits.total →
    Fits (rules_under Two limits) (command_of words)
words_within_fit limits words bounds short few small =
    let flat = words_have_no_depth words in
    let least = bounds.depth_in_range.0 in
    record {
      allows_doubles = λ off. words_have_no_double words;
      has_types = (tt, words_are_in_two words);
      push_at_top = words_have_no_push words;
      within_depth = omega (arith, flat, least);
      within_length = short;
      within_items = few;
      within_total = small;
    }

-- words of which it isn't refuted that they fit do fit
pub words_fit : (limits : Bounds) (words : List (List ℕ)) → AreBounds limits → ((Fits (rules_under Two limits) (command_of words) → ⊥) → ⊥) →
    Fits (rules_under Two limits) (command_of words)
words_fit limits words bounds h =
    let x = command_of words in
    words_within_fit limits words bounds
    (within (longest x) limits.length (λ over. h (λ (f : Fits (rules_under Two limits) x). let k = f.within_length in omega (arith, over, k))))
    (within (most_items x) limits.items (λ over. h (λ (f : Fits (rules_under Two limits) x). let k = f.within_items in omega (arith, over, k))))
    (within (length (canonical_text Two x)) limits.total
    (λ over. h (λ (f : Fits (rules_under Two limits) x). let k = f.within_total in omega (arith, over, k))))
