-- Laws of cut values, text by text.
use Rattle.std.proofs.Common.{◌≡◌, ℕ, suc, ◌≤◌, ◌<◌, Bool, true, false, cond, ltb, min, List, [], ◌∷◌, ◌++◌, length, refl, sym, ap, ◌∙◌, length-append, arith}
use Rattle.std.proofs.lemmas.Bool.{ltb-true, ltb-false}
use Rattle.std.proofs.lemmas.List.{length-take, take_all, take-take}
use Rattle.resp_value.specs.Data.{Scalar, Datum, Data, scalar, aggregate, none, more, longest, longest_among, content_length}
use Rattle.resp_value.specs.Data as d
use Rattle.resp_value.specs.Cuts.{kept_part, cut_scalar, cut, cut_each, longer, scalar_lengths, cut_lengths, lengths_of_each}

-- a text with no more bytes than are shown has no length
pub longer-none : (shown count : ℕ) → count ≤ shown → longer shown count ≡ []
longer-none shown count few = case (ltb shown count) refl
  where
    case : (b : Bool) → ltb shown count ≡ b → cond b (count ∷ []) [] ≡ []
    case true is = let more : shown < count = ltb-true shown count is in absurd (omega arith)
    case false is = refl

-- a text with more bytes has one
pub longer-one : (shown count : ℕ) → shown < count → longer shown count ≡ count ∷ []
longer-one shown count many = case (ltb shown count) refl
  where
    case : (b : Bool) → ltb shown count ≡ b → cond b (count ∷ []) [] ≡ count ∷ []
    case true is = refl
    case false is = let few : count ≤ shown = ltb-false shown count is in absurd (omega arith)

-- a short text is kept
kept_whole : (shown : ℕ) (text : List ℕ) → length text ≤ shown → kept_part shown text ≡ text
kept_whole shown text few = take_all (suc shown) text (omega arith)

scalar_is_kept : (shown : ℕ) (s : Scalar) → content_length s ≤ shown → (cut_scalar shown s ≡ s) × (scalar_lengths shown s ≡ [])
scalar_is_kept shown d.Null few = (refl, refl)
scalar_is_kept shown (d.Bool b) few = (refl, refl)
scalar_is_kept shown (d.Int i) few = (refl, refl)
scalar_is_kept shown (d.Simple text) few = (ap d.Simple (kept_whole shown text few), longer-none shown (length text) few)
scalar_is_kept shown (d.Error text) few = (ap d.Error (kept_whole shown text few), longer-none shown (length text) few)
scalar_is_kept shown (d.Double text) few = (refl, refl)
scalar_is_kept shown (d.Bulk text) few = (ap d.Bulk (kept_whole shown text few), longer-none shown (length text) few)
scalar_is_kept shown (d.BulkError text) few = (ap d.BulkError (kept_whole shown text few), longer-none shown (length text) few)
scalar_is_kept shown (d.Verbatim format text) few =
    (ap (d.Verbatim format) (kept_whole shown text (omega (arith, few))), longer-none shown (length text) (omega (arith, few)))
scalar_is_kept shown (d.Big negative digits) few = (refl, refl)

mutual
  pub short_texts_are_kept : (shown : ℕ) (x : Datum) → longest x ≤ shown → (cut shown x ≡ x) × (cut_lengths shown x ≡ [])
  short_texts_are_kept shown (scalar s) few =
      let kept = scalar_is_kept shown s few in
      (ap scalar kept.0, kept.1)
  short_texts_are_kept shown (aggregate k xs) few =
      let kept = each_is_kept shown xs few in
      (ap (aggregate k) kept.0, kept.1)

  each_is_kept : (shown : ℕ) (xs : Data) → longest_among xs ≤ shown → (cut_each shown xs ≡ xs) × (lengths_of_each shown xs ≡ [])
  each_is_kept shown none few = (refl, refl)
  each_is_kept shown (more x xs) few =
      let first = short_texts_are_kept shown x (omega (arith, few)) in
      let others = each_is_kept shown xs (omega (arith, few)) in
      (ap (λ y. more y (cut_each shown xs)) first.0 ∙ ap (more x) others.0, ap (λ ns. ns ++ lengths_of_each shown xs) first.1 ∙ others.1)

-- the first bytes of the first bytes
kept_again : (shown : ℕ) (text : List ℕ) → kept_part shown (kept_part shown text) ≡ kept_part shown text
kept_again shown text = take-take (suc shown) (suc shown) text (omega arith)

scalar_is_cut_already : (shown : ℕ) (s : Scalar) → cut_scalar shown (cut_scalar shown s) ≡ cut_scalar shown s
scalar_is_cut_already shown d.Null = refl
scalar_is_cut_already shown (d.Bool b) = refl
scalar_is_cut_already shown (d.Int i) = refl
scalar_is_cut_already shown (d.Simple text) = ap d.Simple (kept_again shown text)
scalar_is_cut_already shown (d.Error text) = ap d.Error (kept_again shown text)
scalar_is_cut_already shown (d.Double text) = refl
scalar_is_cut_already shown (d.Bulk text) = ap d.Bulk (kept_again shown text)
scalar_is_cut_already shown (d.BulkError text) = ap d.BulkError (kept_again shown text)
scalar_is_cut_already shown (d.Verbatim format text) = ap (d.Verbatim format) (kept_again shown text)
scalar_is_cut_already shown (d.Big negative digits) = refl

mutual
  pub a_cut_value_is_cut_already : (shown : ℕ) (x : Datum) → cut shown (cut shown x) ≡ cut shown x
  a_cut_value_is_cut_already shown (scalar s) = ap scalar (scalar_is_cut_already shown s)
  a_cut_value_is_cut_already shown (aggregate k xs) = ap (aggregate k) (each_is_cut_already shown xs)

  each_is_cut_already : (shown : ℕ) (xs : Data) → cut_each shown (cut_each shown xs) ≡ cut_each shown xs
  each_is_cut_already shown none = refl
  each_is_cut_already shown (more x xs) =
      ap (λ y. more y (cut_each shown (cut_each shown xs))) (a_cut_value_is_cut_already shown x)
      ∙ ap (more (cut shown x)) (each_is_cut_already shown xs)

-- the first bytes of a text are longer where the text is
as_long : (shown : ℕ) (text : List ℕ) → length (longer shown (length (kept_part shown text))) ≡ length (longer shown (length text))
as_long shown text = case (ltb shown (length text)) refl
  where
    size : length (kept_part shown text) ≡ min (suc shown) (length text)
    size = length-take (suc shown) text

    case : (b : Bool) → ltb shown (length text) ≡ b → length (longer shown (length (kept_part shown text))) ≡ length (longer shown (length text))
    case true is =
        let many : shown < length text = ltb-true shown (length text) is in
        ap length (longer-one shown (length (kept_part shown text)) (omega (arith, size))) ∙ sym (ap length (longer-one shown (length text) many))
    case false is =
        let few : length text ≤ shown = ltb-false shown (length text) is in
        ap length (longer-none shown (length (kept_part shown text)) (omega (arith, size))) ∙ sym (ap length (longer-none shown (length text) few))

scalar_lengths_stay : (shown : ℕ) (s : Scalar) → length (scalar_lengths shown (cut_scalar shown s)) ≡ length (scalar_lengths shown s)
scalar_lengths_stay shown d.Null = refl
scalar_lengths_stay shown (d.Bool b) = refl
scalar_lengths_stay shown (d.Int i) = refl
scalar_lengths_stay shown (d.Simple text) = as_long shown text
scalar_lengths_stay shown (d.Error text) = as_long shown text
scalar_lengths_stay shown (d.Double text) = refl
scalar_lengths_stay shown (d.Bulk text) = as_long shown text
scalar_lengths_stay shown (d.BulkError text) = as_long shown text
scalar_lengths_stay shown (d.Verbatim format text) = as_long shown text
scalar_lengths_stay shown (d.Big negative digits) = refl

mutual
  pub lengths_stay_as_many : (shown : ℕ) (x : Datum) → length (cut_lengths shown (cut shown x)) ≡ length (cut_lengths shown x)
  lengths_stay_as_many shown (scalar s) = scalar_lengths_stay shown s
  lengths_stay_as_many shown (aggregate k xs) = lengths_of_each_stay shown xs

  lengths_of_each_stay : (shown : ℕ) (xs : Data) → length (lengths_of_each shown (cut_each shown xs)) ≡ length (lengths_of_each shown xs)
  lengths_of_each_stay shown none = refl
  lengths_of_each_stay shown (more x xs) = omega (
    arith,
    lengths_stay_as_many shown x,
    lengths_of_each_stay shown xs,
    length-append (cut_lengths shown (cut shown x)) (lengths_of_each shown (cut_each shown xs)),
    length-append (cut_lengths shown x) (lengths_of_each shown xs),
  )
