-- Tokens of integers, big numbers, nulls and truth values.
use Rattle.std.proofs.Common.{◌≡◌, ℕ, ◌<◌, Bool, true, List, [], ◌∷◌, ◌++◌, refl, sym, ap, subst, ◌∙◌, arith, append_assoc, length-append}
use Rattle.resp_value.specs.Numbers.{IsDigit, Sign, sign_text, number}
use Rattle.resp_value.specs.Trees.{numeral, null, truth, NumberKind, Int, Big, NullForm, BulkNull, ArrayNull, PlainNull, number_byte, null_line, truth_line}
use Rattle.resp_value.specs.Rules.{Rules, Rule, InRange, PushAtTop, WithinItems}
use Rattle.resp_value.specs.LocalRules.{LeafKeeps, NodeKeeps}
use Rattle.resp_value.specs.declared.version.Version.TheVariants.{Two}
use Rattle.resp_value.proofs.FirstBytes.{all_append}
use Rattle.resp_fronts.specs.LeastCompletions.{HasLeast}
use Rattle.resp_fronts.proofs.FrameLaws.KeptNodes.{leaf_keeps}
use Rattle.resp_fronts.proofs.Refusals.IntegerRange.{range_in, int_too_far}
use Rattle.resp_fronts.proofs.FirstLines.FirstLineRows.{number_begin_row, truth_begin_row}
use Rattle.resp_fronts.proofs.FirstLines.ShortRows.{null_begun_row}
use Rattle.resp_fronts.proofs.FirstLines.CountRows.{CompletesUnder, IsRefusedHere}
use Rattle.resp_fronts.proofs.Tokens.BegunFronts.{IsBegunBy, begun_by}
use Rattle.resp_fronts.specs.Tokens.{IsLineOf, IsNumberBegun, IsNumberToken, MayBe, greatest}

-- such a number is within every rule
pub number_keeps : (r : Rules) (rule : Rule) (level : ℕ) (k : NumberKind) (sign : Sign) (digits : List ℕ) → MayBe r k sign digits →
    LeafKeeps r rule level (numeral k sign digits)
number_keeps r rule level Int sign digits p = leaf_keeps r rule level (numeral Int sign digits) tt (λ is_two. tt) (range_in sign digits p) (λ off. tt)
    (omega arith)
number_keeps r rule level Big sign digits p = leaf_keeps r rule level (numeral Big sign digits) tt (λ is_two. absurd (p.0 is_two)) tt (λ off. tt) p.1

-- 3
pub number_begun : (r : Rules) (k : NumberKind) (sign : Sign) (level : ℕ) (bytes : List ℕ) → IsNumberBegun r k sign level bytes → IsBegunBy r level bytes 3
number_begun r k sign level bytes w = record {
  head = number_byte k;
  tail = sign_text sign ++ [];
  parts = w.1;
  some = omega arith;
  least = subst (λ z. HasLeast (CompletesUnder r WithinItems level z) 3) (sym w.1)
      (number_begin_row (LeafKeeps r WithinItems) (NodeKeeps r WithinItems) level k sign (number_keeps r WithinItems level k sign (48 ∷ []) w.0));
}

-- it is a line that may end
pub number_token_line : (r : Rules) (k : NumberKind) (sign : Sign) (digits : List ℕ) (level : ℕ) (bytes : List ℕ) → IsNumberToken r k sign digits level bytes →
    IsLineOf r (numeral k sign digits) level bytes
number_token_line r k sign digits level bytes w = record {
  is_leaf = w.are_digits;
  keeps = number_keeps r WithinItems level k sign digits w.may_be;
  is_line =
      w.are;
  no_rest = refl;
}

-- its first digit
pub number_token_begins : (r : Rules) (k : NumberKind) (sign : Sign) (level digit : ℕ) (bytes : List ℕ) → IsDigit digit → MayBe r k sign (digit ∷ []) →
    IsNumberBegun r k sign level bytes → IsNumberToken r k sign (digit ∷ []) level (bytes ++ digit ∷ [])
number_token_begins r k sign level digit bytes p fits w = record {
  are_digits = (omega arith, (p, tt));
  may_be = fits;
  are =
      ap (λ z. z ++ digit ∷ []) w.1 ∙ ap (λ z. number_byte k ∷ z) (append_assoc (sign_text sign) [] (digit ∷ []));
}

-- a digit more goes on after a number's digits
pub number_token_more : (r : Rules) (k : NumberKind) (sign : Sign) (digits : List ℕ) (level digit : ℕ) (bytes : List ℕ) → IsDigit digit →
    MayBe r k sign (digits ++ digit ∷ []) → IsNumberToken r k sign digits level bytes →
    IsNumberToken r k sign (digits ++ digit ∷ []) level (bytes ++ digit ∷ [])
number_token_more r k sign digits level digit bytes p fits w = record {
  are_digits = (omega (arith, length-append digits (digit ∷ [])), all_append IsDigit digits (digit ∷ []) w.are_digits.1 (p, tt));
  may_be = fits;
  are = ap (λ z. z ++ digit ∷ []) w.are ∙ ap (λ z. number_byte k ∷ z) (append_assoc (sign_text sign) digits (digit ∷ []));
}

-- an integer's digit past 64 bits
pub int_token_over : (r : Rules) (sign : Sign) (first : ℕ) (digits : List ℕ) (level digit : ℕ) (bytes : List ℕ) → IsDigit digit →
    greatest sign < number ((first ∷ digits) ++ digit ∷ []) → IsNumberToken r Int sign (first ∷ digits) level bytes →
    (bytes ++ digit ∷ [] ≡ 58 ∷ (sign_text sign ++ first ∷ (digits ++ digit ∷ []))) ×
    IsRefusedHere r InRange PushAtTop level (58 ∷ (sign_text sign ++ first ∷ (digits ++ digit ∷ [])))
int_token_over r sign first digits level digit bytes p past w = (
  ap (λ z. z ++ digit ∷ []) w.are ∙ ap (λ z. 58 ∷ z) (append_assoc (sign_text sign) (first ∷ digits) (digit ∷ [])),
  int_too_far r level sign first (digits ++ digit ∷ []) (omega arith, all_append IsDigit (first ∷ digits) (digit ∷ []) w.are_digits.1 (p, tt)) past,
)

-- the line of a null
pub null_token_line : (r : Rules) (f : NullForm) (level : ℕ) → (r.version ≡ Two → f ≡ PlainNull → ⊥) → IsLineOf r (null f) level (null_line f)
null_token_line r form level p = record { is_leaf = tt; keeps = keeps form p; is_line = refl; no_rest = refl }
  where
    keeps : (f : NullForm) → (r.version ≡ Two → f ≡ PlainNull → ⊥) → LeafKeeps r WithinItems level (null f)
    keeps PlainNull p = leaf_keeps r WithinItems level (null PlainNull) tt (λ is_two. absurd (p is_two refl)) tt (λ off. tt) (omega arith)
    keeps BulkNull p = leaf_keeps r WithinItems level (null BulkNull) tt (λ is_two. tt) tt (λ off. tt) (omega arith)
    keeps ArrayNull p = leaf_keeps r WithinItems level (null ArrayNull) tt (λ is_two. tt) tt (λ off. tt) (omega arith)

-- `$-` and `*-`: 3
pub null_begun : (r : Rules) (form : NullForm) (level first : ℕ) → null_line form ≡ first ∷ 45 ∷ 49 ∷ [] → 13 < first →
    (r.version ≡ Two → form ≡ PlainNull → ⊥) → IsBegunBy r level (first ∷ 45 ∷ []) 3
null_begun r form level first is above in_version = begun_by first (45 ∷ []) (omega arith)
    (null_begun_row (LeafKeeps r WithinItems) (NodeKeeps r WithinItems) level form first is above (null_token_line r form level in_version).keeps)

-- the line of a truth value, in version 3
pub truth_token_line : (r : Rules) (b : Bool) (level : ℕ) → (r.version ≡ Two → ⊥) → IsLineOf r (truth b) level (truth_line b)
truth_token_line r b level no_two = record {
  is_leaf = tt;
  keeps =
      leaf_keeps r WithinItems level (truth b) tt (λ is_two. absurd (no_two is_two)) tt (λ off. tt) (omega arith);
  is_line = refl;
  no_rest = refl;
}

-- `#`: 3
pub truth_begun : (r : Rules) (level : ℕ) → (r.version ≡ Two → ⊥) → IsBegunBy r level (35 ∷ []) 3
truth_begun r level no_two =
    begun_by 35 [] (omega arith)
    (truth_begin_row (LeafKeeps r WithinItems) (NodeKeeps r WithinItems) level (truth_token_line r true level no_two).keeps)
