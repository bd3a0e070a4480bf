-- Tokens of heads: counts of aggregates and lengths of strings.
use Rattle.std.proofs.Common.{◌≡◌, ℕ, suc, ◌+◌, ◌-◌, ◌*◌, ◌<◌, ◌≤◌, List, [], ◌∷◌, ◌++◌, length, refl, sym, ap, subst, ◌∙◌, arith, append_assoc, length-append}
use Rattle.resp_value.specs.Numbers.{IsDigit, IsDigits, number}
use Rattle.resp_value.specs.Data.{Kind, members_of, items_of}
use Rattle.resp_value.specs.Trees.{string, StringKind, Bulk, BulkError, Verbatim, Counted, string_byte, kind_byte, payload, texts, HasFormat}
use Rattle.resp_value.specs.Rules.{Rules, Rule, Grammar, WithinLength, WithinItems}
use Rattle.resp_value.specs.LocalRules.{LeafKeeps, NodeKeeps}
use Rattle.resp_value.proofs.FirstBytes.{all_append}
use Rattle.resp_fronts.specs.LeastCompletions.{HasLeast}
use Rattle.resp_fronts.specs.MayFollow.{members_missing}
use Rattle.resp_fronts.proofs.FrameLaws.OpenFrames.{shortest_trees}
use Rattle.resp_fronts.proofs.FrameLaws.LeastAround.{length-shortest_trees}
use Rattle.resp_fronts.proofs.FrameLaws.KeptNodes.{leaf_keeps}
use Rattle.resp_fronts.proofs.FirstLines.CountRows.{CompletesUnder, IsRefusedHere, kind_line, count_row, count_ends, node_counts, node_recounts, count_too_many}
use Rattle.resp_fronts.proofs.FirstLines.FirstLineRows.{string_row, length-zeros, are_zeros}
use Rattle.resp_fronts.proofs.FirstLines.MoreFirstLineRows.{short_verbatim_row}
use Rattle.resp_fronts.proofs.FirstLines.ShortRows.{next_row, zero_verbatim_row}
use Rattle.resp_fronts.proofs.Refusals.BrokenLines.{byte_broken, after_return_broken}
use Rattle.resp_fronts.proofs.Refusals.BrokenHeads.{count_broken}
use Rattle.resp_fronts.proofs.Tokens.BegunFronts.{IsBegunBy, Opens}
use Rattle.resp_fronts.specs.OpenLevels.{to_come}
use Rattle.resp_fronts.specs.Tokens.{HasString, IsCountReturned, IsCountToken, IsLengthToken, zeros}

-- a digit more
pub more_digits : (digits : List ℕ) (digit : ℕ) → IsDigits digits → IsDigit digit → IsDigits (digits ++ digit ∷ [])
more_digits digits digit p q = (omega (arith, length-append digits (digit ∷ [])), all_append IsDigit digits (digit ∷ []) p.1 (q, tt))

-- three bytes for each member, and 2
pub count_begun : (r : Rules) (k : Kind) (first : ℕ) (digits : List ℕ) (level : ℕ) (bytes : List ℕ) → IsCountToken r k first digits level bytes →
    IsBegunBy r level bytes (3 * members_of k (number (first ∷ digits)) + 2)
count_begun r k first digits level bytes w = record {
  head = kind_byte k;
  tail = first ∷ digits;
  parts = w.are;
  some = omega arith;
  least = subst (λ z. HasLeast (CompletesUnder r WithinItems level z) (3 * members_of k (number (first ∷ digits)) + 2)) (sym w.are)
      (count_row r WithinItems level k first digits w.are_digits w.keeps);
}

-- a digit more, within the limit of items
pub count_token_more : (r : Rules) (k : Kind) (first : ℕ) (digits : List ℕ) (level digit : ℕ) (bytes : List ℕ) → IsDigit digit →
    items_of k (members_of k (number (first ∷ (digits ++ digit ∷ [])))) ≤ r.limits.items → IsCountToken r k first digits level bytes →
    IsCountToken r k first (digits ++ digit ∷ []) level (bytes ++ digit ∷ [])
count_token_more r k first digits level digit bytes p fits w = record {
  are_digits = more_digits (first ∷ digits) digit w.are_digits p;
  keeps = λ earlier e. node_recounts r level k (first ∷ digits) (first ∷ (digits ++ digit ∷ [])) (members_of k (number (first ∷ digits)))
      (members_of k (number (first ∷ (digits ++ digit ∷ [])))) w.keeps fits earlier;
  are = ap (λ z. z ++ digit ∷ []) w.are;
}

-- a digit that makes too many members is refused
pub count_token_over : (r : Rules) (k : Kind) (first : ℕ) (digits : List ℕ) (level digit : ℕ) (bytes : List ℕ) → IsDigit digit →
    r.limits.items < items_of k (members_of k (number (first ∷ (digits ++ digit ∷ [])))) → IsCountToken r k first digits level bytes →
    (bytes ++ digit ∷ [] ≡ kind_byte k ∷ first ∷ (digits ++ digit ∷ [])) ×
    IsRefusedHere r WithinItems WithinLength level (kind_byte k ∷ first ∷ (digits ++ digit ∷ []))
count_token_over r k first digits level digit bytes p past w = (
  ap (λ z. z ++ digit ∷ []) w.are,
  count_too_many r level k first (digits ++ digit ∷ []) (more_digits (first ∷ digits) digit w.are_digits p)
      (λ earlier e. node_counts r level k (first ∷ digits) (first ∷ (digits ++ digit ∷ [])) (members_of k (number (first ∷ digits)))
      (members_of k (number (first ∷ (digits ++ digit ∷ [])))) w.keeps earlier e) past,
)

-- no byte but a digit and CR after a count's digits
pub count_token_broken : (r : Rules) (k : Kind) (first : ℕ) (digits : List ℕ) (level : ℕ) (bytes rest : List ℕ) (byte : ℕ) → (byte ≡ 13 → ⊥) →
    (IsDigit byte → ⊥) → IsCountToken r k first digits level bytes → CompletesUnder r Grammar level bytes (byte ∷ rest) → ⊥
count_token_broken r k first digits level bytes rest byte no_return no_digit w c =
    byte_broken (LeafKeeps r Grammar) (NodeKeeps r Grammar) level (kind_byte k ∷ first ∷ digits) rest byte (kind_line k (first ∷ digits) w.are_digits) no_return
    (count_broken k first digits byte w.are_digits.1.0 no_digit) (subst (λ z. CompletesUnder r Grammar level z (byte ∷ rest)) w.are c)

-- one less than before it
pub count_returned_begun : (r : Rules) (k : Kind) (first : ℕ) (digits : List ℕ) (level : ℕ) (bytes : List ℕ) → IsCountReturned r k first digits level bytes →
    IsBegunBy r level bytes (3 * members_of k (number (first ∷ digits)) + 1)
count_returned_begun r k first digits level bytes w =
    let n = members_of k (number (first ∷ digits)) in
    let b = count_begun r k first digits level w.begun w.count in
    let least : HasLeast (CompletesUnder r WithinItems level w.begun) (suc (3 * n + 1)) =
    subst (HasLeast (CompletesUnder r WithinItems level w.begun)) (omega arith) b.least in
    let ends : CompletesUnder r WithinItems level w.begun (13 ∷ 10 ∷ texts (shortest_trees n)) =
    subst (λ z. CompletesUnder r WithinItems level z (13 ∷ 10 ∷ texts (shortest_trees n))) (sym w.count.are)
    (count_ends r WithinItems level k first digits w.count.are_digits w.count.keeps) in
    record {
      head = b.head;
      tail = b.tail ++ 13 ∷ [];
      parts = w.returned ∙ ap (λ z. z ++ 13 ∷ []) b.parts;
      some = omega arith;
      least = subst (λ z. HasLeast (CompletesUnder r WithinItems level z) (3 * n + 1)) (sym w.returned)
          (next_row (LeafKeeps r WithinItems) (NodeKeeps r WithinItems) level w.begun 13 (3 * n + 1) (10 ∷ texts (shortest_trees n)) least ends
          (omega (arith, length-shortest_trees n)));
    }

-- its LF opens an aggregate that has members
pub count_opens : (r : Rules) (k : Kind) (first : ℕ) (digits : List ℕ) (level : ℕ) (bytes : List ℕ) → 0 < members_of k (number (first ∷ digits)) →
    IsCountReturned r k first digits level bytes → Opens r level k (to_come (members_of k (number (first ∷ digits)))) (bytes ++ 10 ∷ [])
count_opens r k first digits level bytes some w =
    let n = members_of k (number (first ∷ digits)) in
    let all : 0 + members_missing k (Counted (first ∷ digits)) 0 ≡ n = omega arith in
    record {
      form = Counted (first ∷ digits);
      head = ap (λ z. z ++ 10 ∷ []) (w.returned ∙ ap (λ z. z ++ 13 ∷ []) w.count.are) ∙ append_assoc (kind_byte k ∷ first ∷ digits) (13 ∷ []) (10 ∷ []);
      shaped = (first ∷ digits, refl, w.count.are_digits, omega arith, some);
      can_end = ((w.count.are_digits, omega arith), subst (NodeKeeps r WithinItems level k (Counted (first ∷ digits))) (sym all) w.count.keeps);
    }

-- no other byte goes on after the CR
pub count_returned_broken : (r : Rules) (k : Kind) (first : ℕ) (digits : List ℕ) (level : ℕ) (bytes rest : List ℕ) (byte : ℕ) → (byte ≡ 10 → ⊥) →
    IsCountReturned r k first digits level bytes → CompletesUnder r Grammar level bytes (byte ∷ rest) → ⊥
count_returned_broken r k first digits level bytes rest byte no_newline w c =
    after_return_broken (LeafKeeps r Grammar) (NodeKeeps r Grammar) level (kind_byte k ∷ first ∷ digits) rest byte
    (kind_line k (first ∷ digits) w.count.are_digits) no_newline
    (subst (λ z. CompletesUnder r Grammar level z (byte ∷ rest)) (w.returned ∙ ap (λ z. z ++ 13 ∷ []) w.count.are) c)

-- a string up to the limit of length is within every rule
pub string_keeps : (r : Rules) (rule : Rule) (level : ℕ) (k : StringKind) (digits s : List ℕ) → HasString r k → HasFormat k →
    length (payload k s) ≤ r.limits.length → LeafKeeps r rule level (string k digits s)
string_keeps r rule level Bulk digits s p f fits = leaf_keeps r rule level (string Bulk digits s) tt (λ is_two. tt) tt (λ off. tt) fits
string_keeps r rule level BulkError digits s p f fits = leaf_keeps r rule level (string BulkError digits s) tt (λ is_two. absurd (p is_two)) tt (λ off. tt) fits
string_keeps r rule level (Verbatim format) digits s p f fits = leaf_keeps r rule level (string (Verbatim format) digits s) tt (λ is_two. absurd (p is_two)) tt
    (λ off. tt) (omega (arith, f.0, length-append format (58 ∷ s)))

length_least : (r : Rules) (k : StringKind) (first : ℕ) (digits : List ℕ) (level n : ℕ) (bytes : List ℕ) → IsLengthToken r k first digits level bytes → 0 < n →
    HasLeast (CompletesUnder r WithinItems level (string_byte k ∷ first ∷ digits)) n → IsBegunBy r level bytes n
length_least r k first digits level n bytes w some least = record {
  head = string_byte k;
  tail = first ∷ digits;
  parts = w.are;
  some = some;
  least =
      subst (λ z. HasLeast (CompletesUnder r WithinItems level z) n) (sym w.are) least;
}

-- the length of a bulk string or a bulk error, which needs as many bytes and two line ends
pub plain_length_begun : (r : Rules) (k : StringKind) (first : ℕ) (digits : List ℕ) (level : ℕ) (bytes : List ℕ) → HasFormat k →
    ((content : List ℕ) → payload k content ≡ content) → IsLengthToken r k first digits level bytes → IsBegunBy r level bytes (number (first ∷ digits) + 2 + 2)
plain_length_begun r k first digits level bytes has_format plain w =
    let n = number (first ∷ digits) in
    let size : n ≡ length (payload k (zeros n)) = sym (length-zeros n) ∙ ap length (sym (plain (zeros n))) in
    length_least r k first digits level (n + 2 + 2) bytes w (omega arith)
    (string_row (LeafKeeps r WithinItems) (NodeKeeps r WithinItems) level k first digits (zeros n) w.are_digits has_format (are_zeros n) size
    (string_keeps r WithinItems level k (first ∷ digits) (zeros n) w.has_string has_format (omega (arith, size, w.fits))))

-- the length of a verbatim string from 4 on, which needs as many bytes and two line ends
pub verbatim_length_begun : (r : Rules) (first : ℕ) (digits : List ℕ) (level : ℕ) (bytes : List ℕ) → 4 ≤ number (first ∷ digits) →
    IsLengthToken r (Verbatim (zeros 3)) first digits level bytes → IsBegunBy r level bytes (number (first ∷ digits) + 2 + 2)
verbatim_length_begun r first digits level bytes long w =
    let n = number (first ∷ digits) in
    let s = zeros (n - 4) in
    let size : number (first ∷ digits) ≡ length (payload (Verbatim (zeros 3)) s) = omega (arith, length-zeros (n - 4)) in
    length_least r (Verbatim (zeros 3)) first digits level (n + 2 + 2) bytes w (omega arith)
    (string_row (LeafKeeps r WithinItems) (NodeKeeps r WithinItems) level (Verbatim (zeros 3)) first digits s w.are_digits (refl, are_zeros 3)
    (are_zeros (n - 4)) size (string_keeps r WithinItems level (Verbatim (zeros 3)) (first ∷ digits) s w.has_string (refl, are_zeros 3)
    (omega (arith, w.fits))))

-- `=1`, `=2` and `=3`: 15, 25 and 35
pub short_length_begun : (r : Rules) (first : ℕ) (digits : List ℕ) (level : ℕ) (bytes : List ℕ) → 30 ≤ r.limits.length → 0 < number (first ∷ digits) →
    number (first ∷ digits) < 4 → IsLengthToken r (Verbatim (zeros 3)) first digits level bytes → IsBegunBy r level bytes (number (first ∷ digits) * 10 + 3 + 2)
short_length_begun r first digits level bytes roomy some short w =
    let n = number (first ∷ digits) in
    let s = zeros (n * 10 - 4) in
    let size = length-zeros (n * 10 - 4) in
    length_least r (Verbatim (zeros 3)) first digits level (n * 10 + 3 + 2) bytes w (omega arith)
    (short_verbatim_row (LeafKeeps r WithinItems) (NodeKeeps r WithinItems) level first digits w.are_digits
    (more_digits (first ∷ digits) 48 w.are_digits (omega arith, omega arith)) some short
    (string_keeps r WithinItems level (Verbatim (zeros 3)) ((first ∷ digits) ++ 48 ∷ []) s w.has_string (refl, are_zeros 3) (omega arith)))

-- `=0`: 9
pub zero_length_begun : (r : Rules) (first : ℕ) (digits : List ℕ) (level : ℕ) (bytes : List ℕ) → 4 ≤ r.limits.length → number (first ∷ digits) ≡ 0 →
    IsLengthToken r (Verbatim (zeros 3)) first digits level bytes → IsBegunBy r level bytes 9
zero_length_begun r first digits level bytes roomy is_zero w =
    length_least r (Verbatim (zeros 3)) first digits level 9 bytes w (omega arith)
    (zero_verbatim_row (LeafKeeps r WithinItems) (NodeKeeps r WithinItems) level first digits (w.are_digits, is_zero)
    (more_digits (first ∷ digits) 52 w.are_digits (omega arith, omega arith))
    (string_keeps r WithinItems level (Verbatim (zeros 3)) ((first ∷ digits) ++ 52 ∷ []) [] w.has_string (refl, are_zeros 3) (omega arith)))

-- a digit more, within the limit of length
pub length_token_more : (r : Rules) (k : StringKind) (first : ℕ) (digits : List ℕ) (level digit : ℕ) (bytes : List ℕ) → IsDigit digit →
    number (first ∷ (digits ++ digit ∷ [])) ≤ r.limits.length → IsLengthToken r k first digits level bytes →
    IsLengthToken r k first (digits ++ digit ∷ []) level (bytes ++ digit ∷ [])
length_token_more r k first digits level digit bytes p fits w = record {
  are_digits = more_digits (first ∷ digits) digit w.are_digits p;
  has_string =
      w.has_string;
  fits = fits;
  are = ap (λ z. z ++ digit ∷ []) w.are;
}
