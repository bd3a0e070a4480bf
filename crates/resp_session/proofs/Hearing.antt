-- What is heard of values, and then of more.
use Rattle.std.proofs.Common.{◌≡◌, ℕ, ◌+◌, not, List, [], ◌∷◌, ◌++◌, length, ap, ◌∙◌, arith}
use Rattle.std.proofs.lemmas.List.Elements.{filter-append}
use Rattle.resp_value.specs.Data.{Datum}
use Rattle.resp_session.specs.Heard.{is_push, replies_of, numbered_from}
use Rattle.resp_session.specs.ReadingLaws.{HearingGoesOn}

numbered_from-append : (first : ℕ) (xs ys : List Datum) → numbered_from first (xs ++ ys) ≡ numbered_from first xs ++ numbered_from (first + length xs) ys
numbered_from-append first [] ys = let e : first ≡ first + 0 = omega arith in ap (λ n. numbered_from n ys) e
numbered_from-append first (x ∷ xs) ys =
    let e : first + 1 + length xs ≡ first + length (x ∷ xs) = omega arith in
    ap (λ l. (first, x) ∷ l) (numbered_from-append (first + 1) xs ys ∙ ap (λ n. numbered_from (first + 1) xs ++ numbered_from n ys) e)

pub hearing_goes_on : HearingGoesOn
hearing_goes_on first xs ys = (
  ap (numbered_from first) (filter-append (λ x. not (is_push x)) xs ys) ∙ numbered_from-append first (replies_of xs) (replies_of ys),
  filter-append is_push xs ys,
)
