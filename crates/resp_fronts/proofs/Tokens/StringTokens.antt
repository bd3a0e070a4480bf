-- Tokens of counted strings up to their length, of each kind alike.
use Rattle.std.proofs.Common.{◌≡◌, ℕ, ◌+◌, ◌-◌, ◌<◌, ◌≤◌, List, [], ◌∷◌, ◌++◌, length, refl, sym, ap, subst, arith, length-append}
use Rattle.resp_value.specs.Bytes.{IsText, crlf}
use Rattle.resp_value.specs.Numbers.{IsDigit, number}
use Rattle.resp_value.specs.Trees.{StringKind, Bulk, BulkError, Verbatim, string_byte, payload, HasFormat}
use Rattle.resp_value.specs.Rules.{Rules, Grammar, WithinItems}
use Rattle.resp_value.specs.LocalRules.{LeafKeeps, NodeKeeps}
use Rattle.resp_fronts.specs.LeastCompletions.{HasLeast}
use Rattle.resp_fronts.proofs.FirstLines.CountRows.{CompletesUnder}
use Rattle.resp_fronts.proofs.FirstLines.FirstLineRows.{string_line, length-zeros, are_zeros}
use Rattle.resp_fronts.proofs.FirstLines.ShortRows.{before_newline_row}
use Rattle.resp_fronts.proofs.Refusals.BrokenLines.{after_return_broken, byte_broken, line_broken}
use Rattle.resp_fronts.proofs.Refusals.BrokenHeads.{IsNoLength, length_begun_broken, length_broken, length_short, verbatim_short}
use Rattle.resp_fronts.proofs.Tokens.ContentTokens.{content_begun}
use Rattle.resp_fronts.proofs.Tokens.BegunFronts.{IsBegunBy}
use Rattle.resp_fronts.specs.Tokens.{HasString, IsContentToken, IsLengthToken, zeros}

-- Type bytes.

-- a string's type byte
abbrev pub IsStringBegun : Rules → StringKind → List ℕ → Type 0
IsStringBegun r k bytes = HasString r k × (bytes ≡ string_byte k ∷ [])

-- what is no length after it
pub string_begun_broken : (r : Rules) (k : StringKind) (level : ℕ) (bytes rest : List ℕ) (byte : ℕ) → IsNoLength k byte → IsStringBegun r k bytes →
    CompletesUnder r Grammar level bytes (byte ∷ rest) → ⊥
string_begun_broken r k level bytes rest byte other w c =
    line_broken (LeafKeeps r Grammar) (NodeKeeps r Grammar) level (string_byte k ∷ []) rest byte (string_line k [] tt) (length_short k)
    (length_begun_broken k byte other) (subst (λ z. CompletesUnder r Grammar level z (byte ∷ rest)) w.1 c)

-- Lengths.

-- a length's first digit
pub length_token_begins : (r : Rules) (k : StringKind) (level digit : ℕ) (bytes : List ℕ) → IsDigit digit → number (digit ∷ []) ≤ r.limits.length →
    IsStringBegun r k bytes → IsLengthToken r k digit [] level (bytes ++ digit ∷ [])
length_token_begins r k level digit bytes p fits w = record {
  are_digits = (omega arith, (p, tt));
  has_string = w.0;
  fits = fits;
  are =
      ap (λ z. z ++ digit ∷ []) w.1;
}

-- no byte but a digit and CR after a length's digits
pub length_token_broken : (r : Rules) (k : StringKind) (first : ℕ) (digits : List ℕ) (level : ℕ) (bytes rest : List ℕ) (byte : ℕ) → (byte ≡ 13 → ⊥) →
    (IsDigit byte → ⊥) → IsLengthToken r k first digits level bytes → CompletesUnder r Grammar level bytes (byte ∷ rest) → ⊥
length_token_broken r k first digits level bytes rest byte no_return no_digit w c =
    byte_broken (LeafKeeps r Grammar) (NodeKeeps r Grammar) level (string_byte k ∷ first ∷ digits) rest byte (string_line k (first ∷ digits) w.are_digits.1)
    no_return (length_broken k first digits byte w.are_digits.1.0 no_digit) (subst (λ z. CompletesUnder r Grammar level z (byte ∷ rest)) w.are c)

-- nothing but a digit goes on after the length of a verbatim string that has no room for a format
pub short_token_broken : (r : Rules) (format : List ℕ) (first : ℕ) (digits : List ℕ) (level : ℕ) (bytes rest : List ℕ) (byte : ℕ) →
    number (first ∷ digits) < 4 → (IsDigit byte → ⊥) → IsLengthToken r (Verbatim format) first digits level bytes →
    CompletesUnder r Grammar level bytes (byte ∷ rest) → ⊥
short_token_broken r format first digits level bytes rest byte short no_digit w c =
    line_broken (LeafKeeps r Grammar) (NodeKeeps r Grammar) level (61 ∷ first ∷ digits) rest byte
    (string_line (Verbatim format) (first ∷ digits) w.are_digits.1) (verbatim_short first digits short)
    (length_broken (Verbatim format) first digits byte w.are_digits.1.0 no_digit) (subst (λ z. CompletesUnder r Grammar level z (byte ∷ rest)) w.are c)

-- a length that leaves room for a format
abbrev pub HasRoom : StringKind → ℕ → Type 0
HasRoom Bulk n = Unit {0}
HasRoom BulkError n = Unit {0}
HasRoom (Verbatim format) n = 4 ≤ n

-- some content of that length
pub of_size : (k : StringKind) (n : ℕ) → HasFormat k → HasRoom k n → (s : List ℕ) × IsText s × (n ≡ length (payload k s))
of_size Bulk n f room = (zeros n, are_zeros n, sym (length-zeros n))
of_size BulkError n f room = (zeros n, are_zeros n, sym (length-zeros n))
of_size (Verbatim format) n f room = (zeros (n - 4), are_zeros (n - 4), omega (arith, f.0, length-append format (58 ∷ zeros (n - 4)), length-zeros (n - 4)))

-- after its CR LF the payload begins
pub payload_begins : (r : Rules) (k : StringKind) (first : ℕ) (digits : List ℕ) (level : ℕ) (bytes : List ℕ) → HasFormat k →
    HasRoom k (number (first ∷ digits)) → IsLengthToken r k first digits level bytes →
    IsContentToken r k first digits [] (number (first ∷ digits)) level (bytes ++ crlf [])
payload_begins r k first digits level bytes f room w =
    let c = of_size k (number (first ∷ digits)) f room in record {
      are_digits = w.are_digits;
      has_string = w.has_string;
      has_format = f;
      fits = w.fits;
      content = c.0;
      is_text = c.1;
      size = c.2;
      rest = payload k c.0;
      split = refl;
      rest_size = sym c.2;
      are = ap (λ z. z ++ crlf []) w.are;
    }

-- after its CR one byte more is needed
pub length_returned_begun : (r : Rules) (k : StringKind) (first : ℕ) (digits : List ℕ) (level : ℕ) (bytes : List ℕ) → HasFormat k →
    HasRoom k (number (first ∷ digits)) → IsLengthToken r k first digits level bytes → IsBegunBy r level (bytes ++ 13 ∷ []) (number (first ∷ digits) + 3)
length_returned_begun r k first digits level bytes f room w =
    let n = number (first ∷ digits) in
    let line = string_byte k ∷ first ∷ digits in
    let row = content_begun r k first digits [] n level (bytes ++ crlf []) (payload_begins r k first digits level bytes f room w) in
    let least = before_newline_row (LeafKeeps r WithinItems) (NodeKeeps r WithinItems) level line (n + 2) (string_line k (first ∷ digits) w.are_digits.1)
    (subst (λ z. HasLeast (CompletesUnder r WithinItems level (z ++ crlf [])) (n + 2)) w.are row.least) in
    record {
      head = string_byte k;
      tail = first ∷ (digits ++ 13 ∷ []);
      parts = ap (λ z. z ++ 13 ∷ []) w.are;
      some = omega arith;
      least = subst (λ z. HasLeast (CompletesUnder r WithinItems level (z ++ 13 ∷ [])) (n + 3)) (sym w.are)
          (subst (HasLeast (CompletesUnder r WithinItems level (line ++ 13 ∷ []))) (omega arith) least);
    }

-- no byte but LF goes on after a length's CR
pub length_returned_broken : (r : Rules) (k : StringKind) (first : ℕ) (digits : List ℕ) (level : ℕ) (bytes rest : List ℕ) (byte : ℕ) → (byte ≡ 10 → ⊥) →
    IsLengthToken r k first digits level bytes → CompletesUnder r Grammar level (bytes ++ 13 ∷ []) (byte ∷ rest) → ⊥
length_returned_broken r k first digits level bytes rest byte no_newline w c =
    after_return_broken (LeafKeeps r Grammar) (NodeKeeps r Grammar) level (string_byte k ∷ first ∷ digits) rest byte
    (string_line k (first ∷ digits) w.are_digits.1) no_newline (subst (λ z. CompletesUnder r Grammar level (z ++ 13 ∷ []) (byte ∷ rest)) w.are c)
