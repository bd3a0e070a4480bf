-- The events due of a big number: none before its first digit that isn't zero, and from that one on its digits.
use Rattle.std.specs.Prelude.{false, cond, eqb}
use Rattle.std.proofs.lemmas.Bool.Decides.{nat_tests}
use Rattle.std.proofs.Common.{◌≡◌, ℕ, ◌+◌, ◌-◌, ◌<◌, ◌≤◌, Bool, true, List, [], ◌∷◌, ◌++◌, length, refl, sym, ap, subst, ◌∙◌, arith, append_assoc, append-nil, length-append}
use Rattle.resp_value.specs.Bytes.{crlf}
use Rattle.resp_value.specs.Data as d
use Rattle.resp_value.specs.Numbers.{IsDigits, Sign, Unsigned, Plus, Minus, is_minus, is_below_zero, number, sign_text, significant_digits}
use Rattle.resp_value.specs.Rules.{Rules}
use Rattle.resp_value.specs.Trees as t
use Rattle.resp_value.specs.Trees.{Tree, IsTree, leaf, node, line, numeral, null, truth, string, chunked, leaf_text, text}
use Rattle.resp_value.proofs.FirstBytes.{first_byte, first_byte_is}
use Rattle.resp_value.proofs.FirstLines.{after_line, first_line, sort_of-line}
use Rattle.resp_value.proofs.DigitLemmas.{number-more, length-significant_digits}
use Rattle.resp_fronts.specs.Events as e
use Rattle.resp_fronts.specs.Events.{Event, big_events, events_due, events, last_of, leaf_events}
use Rattle.resp_fronts.proofs.FirstLines.BegunLines.{line_begins, text_first}
use Rattle.resp_fronts.proofs.EventLaws.EventsDue.{AreFrom, due_none}
use Rattle.resp_fronts.proofs.FirstLines.FirstLineRows.{number_line, tree_of_numeral, sort_of_signed}
use Rattle.resp_fronts.specs.Tokens.{IsNumberBegun}
use Rattle.resp_scan.specs.Machine.Beginnings.{BigBegun, BigShown, ZeroReturned}
use Rattle.resp_scan.proofs.DueEvents.InsideDue.{AreDueWithin}
use Rattle.resp_scan.proofs.DueEvents.LinesDue.{returned_is, returned_last}
use Rattle.resp_scan.proofs.DueEvents.TextsDue.{bytes_later, due_text, text_later}

length_of : (sign : Sign) (digits : List ℕ) → length (leaf_text (numeral t.Big sign digits)) ≡ length (sign_text sign) + length digits + 3
length_of sign digits = omega (arith, length-append (40 ∷ (sign_text sign ++ digits)) (crlf []), length-append (sign_text sign) digits)

-- leading zeros before more digits
stripped_zeros : (a b : List ℕ) → significant_digits a ≡ [] → significant_digits (a ++ b) ≡ significant_digits b
stripped_zeros [] b none = refl
stripped_zeros (c ∷ a) b none = cases (eqb c 48) (stripped_zeros a b) none
  where
    cases : (x : Bool) → (significant_digits a ≡ [] → significant_digits (a ++ b) ≡ significant_digits b) → cond x (significant_digits a) (c ∷ a) ≡ [] →
        cond x (significant_digits (a ++ b)) (c ∷ (a ++ b)) ≡ significant_digits b
    cases true beyond h = beyond h
    cases false beyond h = absurd (cc)

-- and digits that aren't all zeros
stripped_kept : (a b : List ℕ) (digit : ℕ) (digits : List ℕ) → significant_digits a ≡ digit ∷ digits → significant_digits (a ++ b) ≡ digit ∷ (digits ++ b)
stripped_kept [] b digit digits some = absurd (cc)
stripped_kept (c ∷ a) b digit digits some = cases (eqb c 48) (stripped_kept a b digit digits) some
  where
    cases : (x : Bool) → (significant_digits a ≡ digit ∷ digits → significant_digits (a ++ b) ≡ digit ∷ (digits ++ b)) →
        cond x (significant_digits a) (c ∷ a) ≡ digit ∷ digits → cond x (significant_digits (a ++ b)) (c ∷ (a ++ b)) ≡ digit ∷ (digits ++ b)
    cases true beyond h = beyond h
    cases false beyond h = ap (λ z. z ++ b) h

-- no event before the first digit that isn't zero
big_later : (from n : ℕ) (sign : Sign) (digits : List ℕ) → n + length (significant_digits digits) ≤ from + 1 + length (sign_text sign) + length digits →
    AreFrom n (leaf_events from (numeral t.Big sign digits))
big_later from n sign digits l = case (is_below_zero sign digits) (significant_digits digits) (last_of from (leaf_text (numeral t.Big sign digits)))
    (omega (arith, l, length_of sign digits))
  where
    case : (negative : Bool) (kept : List ℕ) (last : ℕ) → n + length kept + 1 ≤ last → AreFrom n (big_events negative kept last)
    case negative [] last m = text_later n (e.Big negative) last last [] last (omega (arith, m)) (omega (arith, m)) (omega (arith, m))
    case negative (d ∷ ds) last m = text_later n (e.Big negative) (last - 2 - length ds) (last - 2 - length ds) (d ∷ ds) last (omega (arith, m))
        (omega (arith, m)) (omega (arith, m))

-- Before the digits.

-- a value with this type byte is a big number
big_by_byte : (value : Tree) → first_byte value ≡ 40 → (sign : Sign) × (digits : List ℕ) × (value ≡ leaf (numeral t.Big sign digits))
big_by_byte (leaf (line t.Simple s)) i = absurd (omega arith)
big_by_byte (leaf (line t.Error s)) i = absurd (omega arith)
big_by_byte (leaf (line t.Double s)) i = absurd (omega arith)
big_by_byte (leaf (numeral t.Int sign digits)) i = absurd (omega arith)
big_by_byte (leaf (numeral t.Big sign digits)) i = (sign, digits, refl)
big_by_byte (leaf (null t.BulkNull)) i = absurd (omega arith)
big_by_byte (leaf (null t.ArrayNull)) i = absurd (omega arith)
big_by_byte (leaf (null t.PlainNull)) i = absurd (omega arith)
big_by_byte (leaf (truth b)) i = absurd (omega arith)
big_by_byte (leaf (string t.Bulk digits s)) i = absurd (omega arith)
big_by_byte (leaf (string t.BulkError digits s)) i = absurd (omega arith)
big_by_byte (leaf (string (t.Verbatim format) digits s)) i = absurd (omega arith)
big_by_byte (leaf (chunked cs zeros)) i = absurd (omega arith)
big_by_byte (node d.Array form ts) i = absurd (omega arith)
big_by_byte (node d.Set form ts) i = absurd (omega arith)
big_by_byte (node d.Map form ts) i = absurd (omega arith)
big_by_byte (node d.Attr form ts) i = absurd (omega arith)
big_by_byte (node d.Push form ts) i = absurd (omega arith)

-- a byte below the digits after it is its sign
signed_by : (byte : ℕ) (sign : Sign) (digits beyond : List ℕ) → byte < 48 → IsDigits digits → (sign_text sign ++ digits) ++ crlf [] ≡ byte ∷ beyond →
    1 ≤ length (sign_text sign)
signed_by byte Plus digits beyond below are same = omega arith
signed_by byte Minus digits beyond below are same = omega arith
signed_by byte Unsigned [] beyond below are same = absurd (omega (arith, are.0))
signed_by byte Unsigned (c ∷ digits) beyond below are same = let h : c ≡ byte = cc in absurd (omega (arith, are.1.0.0, h, below))

sign_within : (sign other : Sign) (digits beyond : List ℕ) → IsDigits digits → leaf_text (numeral t.Big other digits) ≡ (40 ∷ (sign_text sign ++ [])) ++
    beyond → length (sign_text sign) ≤ length (sign_text other)
sign_within Unsigned other digits beyond are same = omega arith
sign_within Plus other digits beyond are same = signed_by 43 other digits beyond (omega arith) are (cc)
sign_within Minus other digits beyond are same = signed_by 45 other digits beyond (omega arith) are (cc)

-- a big number's type byte, and its sign
pub big_begun_due : (r : Rules) (sign : Sign) (level : ℕ) (bytes : List ℕ) (shown : List Event) → IsNumberBegun r t.Big sign level bytes → shown ≡ [] →
    AreDueWithin bytes shown
big_begun_due r sign level bytes shown w told from value beyond is_tree whole =
    let spelled : text value ≡ (40 ∷ (sign_text sign ++ [])) ++ beyond = whole ∙ ap (λ z. z ++ beyond) w.1 in
    let (other, digits, same) = big_by_byte value (first_byte_is value [] ((sign_text sign ++ []) ++ beyond) 40 (append-nil (text value) ∙ spelled)) in
    let are : IsDigits digits = subst IsTree same is_tree in
    let within = sign_within sign other digits beyond are (ap text (sym same) ∙ spelled) in
    ap (λ z. events_due (from + length bytes) (events from z)) same
    ∙ due_none (from + length bytes) (leaf_events from (numeral t.Big other digits))
    (big_later from (from + length bytes) other digits (omega (
      arith,
      within,
      ap length w.1,
      ap length (append-nil (sign_text sign)),
      length-significant_digits digits,
    )))
    ∙ sym told

-- Digits.

-- with digits the value is such a number, with more digits
big_goes_on : (r : Rules) (negative : Bool) (kept : List ℕ) (level : ℕ) (bytes : List ℕ) (w : BigBegun r negative kept level bytes) (value : Tree)
    (beyond : List ℕ) → IsTree value → text value ≡ bytes ++ beyond → (l : List ℕ) × (value ≡ leaf (numeral t.Big w.sign ((w.first ∷ w.digits) ++ l)))
big_goes_on r negative kept level bytes w value beyond is_tree whole =
    let begun = 40 ∷ (sign_text w.sign ++ w.first ∷ w.digits) in
    let (l, h, rest) = line_begins (first_line value) begun (after_line value) beyond (number_line t.Big w.sign (w.first ∷ w.digits) w.token.are_digits.1)
    (sym (text_first value) ∙ whole ∙ ap (λ z. z ++ beyond) w.token.are) in
    let first : first_line value ≡ 40 ∷ (sign_text w.sign ++ w.first ∷ (w.digits ++ l)) =
    h ∙ ap (λ z. 40 ∷ z) (append_assoc (sign_text w.sign) (w.first ∷ w.digits) l) in
    let digit = w.token.are_digits.1.0 in (
      l,
      tree_of_numeral value t.Big w.sign (w.first ∷ (w.digits ++ l)) (sort_of-line value is_tree first ∙
          sort_of_signed t.Big w.sign w.first (w.digits ++ l) (λ i. (λ j. omega (arith, digit.0, j), λ j. omega (arith, digit.0, j)))),
    )

-- zeros so far
pub big_zeros_due : (r : Rules) (negative : Bool) (level : ℕ) (bytes : List ℕ) (shown : List Event) → BigBegun r negative [] level bytes → shown ≡ [] →
    AreDueWithin bytes shown
big_zeros_due r negative level bytes shown w told from value beyond is_tree whole =
    let (l, same) = big_goes_on r negative [] level bytes w value beyond is_tree whole in
    let zeros = w.first ∷ w.digits in
    ap (λ z. events_due (from + length bytes) (events from z)) same
    ∙ due_none (from + length bytes) (leaf_events from (numeral t.Big w.sign (zeros ++ l)))
    (big_later from (from + length bytes) w.sign (zeros ++ l)
    (omega (
      arith,
      ap length w.token.are,
      length-append (sign_text w.sign) zeros,
      length-append zeros l,
      ap length (stripped_zeros zeros l w.left),
      length-significant_digits l,
    )))
    ∙ sym told

-- before the LF of a big zero
pub big_zero_returned_due : (r : Rules) (level : ℕ) (bytes : List ℕ) (shown : List Event) → ZeroReturned r level bytes shown → AreDueWithin bytes shown
big_zero_returned_due r level bytes shown w from value beyond is_tree whole =
    let l = numeral t.Big w.sign w.digits in
    let last = last_of from (leaf_text l) in
    ap (λ n. events_due n (events from value)) (returned_last r l level bytes from w.returned)
    ∙ ap (λ z. events_due last (events from z)) (returned_is r l level bytes value beyond w.returned is_tree whole)
    ∙ ap (λ z. events_due last (big_events (is_below_zero w.sign w.digits) z last)) w.left
    ∙ due_none last (big_events (is_below_zero w.sign w.digits) [] last)
    (text_later last (e.Big (is_below_zero w.sign w.digits)) last last [] last (omega arith) (omega arith) (omega arith))
    ∙ sym w.told

-- the digits from the first that isn't zero on
pub big_shown_due : (r : Rules) (room level : ℕ) (bytes : List ℕ) (shown : List Event) → BigShown r room level bytes shown → AreDueWithin bytes shown
big_shown_due r room level bytes shown w from value beyond is_tree whole =
    let b = w.token in
    let (l, same) = big_goes_on r w.negative (w.digit ∷ w.digits) level bytes b value beyond is_tree whole in
    let ds = b.first ∷ b.digits in
    let n = from + length bytes in
    let last = last_of from (leaf_text (numeral t.Big b.sign (ds ++ l))) in
    let begins = last - 2 - length (w.digits ++ l) in
    let kept : length (w.digit ∷ w.digits) ≤ length ds = omega (arith, ap length b.left, length-significant_digits ds) in
    let place : begins + length (w.digit ∷ w.digits) ≡ n = omega (
      arith,
      kept,
      length_of b.sign (ds ++ l),
      length-append ds l,
      length-append w.digits l,
      ap length b.token.are,
      length-append (sign_text b.sign) ds,
    ) in
    ap (λ z. events_due n (events from z)) same
    ∙ ap (λ z. events_due n (big_events z (significant_digits (ds ++ l)) last)) (negative l)
    ∙ ap (λ z. events_due n (big_events w.negative z last)) (stripped_kept ds l w.digit w.digits b.left)
    ∙ due_text n (e.Big w.negative) begins begins (w.digit ∷ w.digits) l last (omega (arith, place)) (omega (arith, place))
    (bytes_later n (begins + length (w.digit ∷ w.digits)) l (omega (arith, place)))
    (omega (arith, place, kept, length_of b.sign (ds ++ l), length-append ds l, length-append w.digits l))
    ∙ sym w.told
  where
    negative : (l : List ℕ) → is_below_zero w.token.sign ((w.token.first ∷ w.token.digits) ++ l) ≡ w.negative
    negative l =
        let ds = w.token.first ∷ w.token.digits in
        elim (eqb (number (ds ++ l)) 0) as (λ x. eqb (number (ds ++ l)) 0 ≡ x → cond x false (is_minus w.token.sign) ≡ w.negative) [
          | true ↦ λ z. absurd (
              let zero : number (ds ++ l) ≡ 0 = grind (arith, nat_tests) in
              let none : w.digit ∷ w.digits ≡ [] = w.token.zero (omega (arith, number-more ds l, zero)) in
              cc)
          | false ↦ λ z. w.token.is_signed
        ] refl
