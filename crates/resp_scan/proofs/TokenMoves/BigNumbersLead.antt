-- Big numbers: leading zeros, the first digit that isn't zero, and digits after it.
use Rattle.std.specs.Prelude.{Bool, true, false, cond, eqb}
use Rattle.std.proofs.lemmas.Bool.Decides.{nat_tests}
use Rattle.std.proofs.Common.{◌≡◌, ℕ, ◌+◌, ◌-◌, ◌<◌, ◌≤◌, List, [], ◌∷◌, ◌++◌, length, refl, sym, ap, subst, ◌∙◌, arith, append-nil, length-append}
use Rattle.resp_value.specs.Numbers.{IsDigit, Sign, is_minus, is_below_zero, kept_digits, number, significant_digits, zero_if_none}
use Rattle.resp_value.specs.Rules.{Rules, WithinDepth, WithinLength}
use Rattle.resp_value.specs.Trees.{leaf, numeral, Big, leaf_text}
use Rattle.resp_value.specs.declared.cause.Cause.TheVariants as cause
use Rattle.resp_value.proofs.KeptDigits.{number-stripped}
use Rattle.resp_value.proofs.DigitLemmas.{number-digit}
use Rattle.resp_value.proofs.Choices.{if_equal, positive}
use Rattle.resp_fronts.specs.Events.{Event, big_events, without_places, last_of, leaf_events}
use Rattle.resp_fronts.specs.Events as e
use Rattle.resp_fronts.proofs.FirstLines.CountRows.{IsRefusedHere}
use Rattle.resp_fronts.proofs.Tokens.BegunFronts.{IsBegunBy}
use Rattle.resp_fronts.proofs.Tokens.BegunTypeBytes.{big_token_over}
use Rattle.resp_fronts.proofs.Tokens.LineTokens.{returned_begun, returned_broken, returned_whole}
use Rattle.resp_fronts.proofs.Tokens.NumberTokens.{number_token_begins, number_token_line, number_token_more}
use Rattle.resp_scan.specs.declared.event.TextKind.TheVariants as text
use Rattle.resp_scan.specs.Machine.Tokens as k
use Rattle.resp_scan.specs.Machine.Tokens.{Go, Byte, Give, Refuse, Place, AtBigDigit, AtBigFirst, AtBigSign, AtBigZeroLf, AtLineLf, AtTextEnd, InBig, InBigZeros, at, at_boundary}
use Rattle.resp_scan.specs.Machine.Room.{has_total_room}
use Rattle.resp_scan.specs.Machine.Moves.{big_digit, big_first, content_byte}
use Rattle.resp_scan.specs.Kinds.{content_events, rules_of}
use Rattle.resp_scan.specs.Machine.Beginnings as b
use Rattle.resp_scan.specs.Machine.Beginnings.{BigBegun, BigDigitOwed, BigShown, IsSigned, SignBegun, TextReturned, TextWhole, ZeroReturned}
use Rattle.resp_scan.specs.Machine.Standing.{HasCountsOf, IsInside, Leads, StandsAfter}
use Rattle.resp_scan.proofs.TokenMoves.LeafEvents.{content_events-append, given-big, leaf_told}
use Rattle.resp_scan.proofs.TokenMoves.Moves.{Ends, goes, tells, value_ends, ALead}
use Rattle.resp_scan.proofs.TokenMoves.NumbersLead.{AnySign, digits_dead, digits_row, signed_any, signs_lead, unsigned_any, first_digit_leads}
use Rattle.resp_scan.proofs.TokenMoves.RefusedMoves.{fits_or_total, refused}
use Rattle.resp_scan.proofs.TokenMoves.ByteTests.{by_digit, wants_leads}

-- Digits without leading zeros.

-- one more, after zeros
stripped-first : (digits : List ℕ) (digit : ℕ) → significant_digits digits ≡ [] →
    significant_digits (digits ++ digit ∷ []) ≡ cond (eqb digit 48) [] (digit ∷ [])
stripped-first [] digit e = refl
stripped-first (c ∷ digits) digit e = case (eqb c 48) e (stripped-first digits digit)
  where
    case : (z : Bool) → cond z (significant_digits digits) (c ∷ digits) ≡ [] →
        (significant_digits digits ≡ [] → significant_digits (digits ++ digit ∷ []) ≡ cond (eqb digit 48) [] (digit ∷ [])) →
        cond z (significant_digits (digits ++ digit ∷ [])) (c ∷ (digits ++ digit ∷ [])) ≡ cond (eqb digit 48) [] (digit ∷ [])
    case true e h = h e
    case false e h = absurd (omega (arith, ap length e))

-- and after others
stripped-more : (digits : List ℕ) (digit x : ℕ) (xs : List ℕ) → significant_digits digits ≡ x ∷ xs → significant_digits (digits ++ digit ∷ []) ≡ x ∷
    (xs ++ digit ∷ [])
stripped-more [] digit x xs e = absurd (omega (arith, ap length e))
stripped-more (c ∷ digits) digit x xs e = case (eqb c 48) e (stripped-more digits digit x xs)
  where
    case : (z : Bool) → cond z (significant_digits digits) (c ∷ digits) ≡ x ∷ xs →
        (significant_digits digits ≡ x ∷ xs → significant_digits (digits ++ digit ∷ []) ≡ x ∷ (xs ++ digit ∷ [])) →
        cond z (significant_digits (digits ++ digit ∷ [])) (c ∷ (digits ++ digit ∷ [])) ≡ x ∷ (xs ++ digit ∷ [])
    case true e h = h e
    case false e h = ap (λ z. z ++ digit ∷ []) e

-- Rows.

-- a big number's digits, zeros or others
pub row_of : (r : Rules) (negative : Bool) (kept_digits : List ℕ) (level : ℕ) (bytes : List ℕ) → BigBegun r negative kept_digits level bytes →
    IsBegunBy r level bytes 2
row_of r negative kept_digits level bytes w = digits_row r Big w.sign (w.first ∷ w.digits) level bytes w.token

-- The first digits.

-- what is left of a digit without leading zeros
abbrev kept_of : ℕ → List ℕ
kept_of digit = cond (eqb digit 48) [] (digit ∷ [])

length-kept_of : (digit : ℕ) → length (zero_if_none (kept_of digit)) ≤ 1
length-kept_of digit = if_equal digit 48 (λ x. length (zero_if_none (cond x [] (digit ∷ []))) ≤ 1) (λ is. omega arith) (λ other. omega arith)

kept_of-zero : (digit : ℕ) → IsDigit digit → digit - 48 ≡ 0 → kept_of digit ≡ []
kept_of-zero digit d zero = if_equal digit 48 (λ x. cond x [] (digit ∷ []) ≡ []) (λ is. refl) (λ other. absurd (other (omega (arith, d.0, zero))))

-- zeros so far, and a digit more
digit_more : (r : Rules) (negative : Bool) (level byte : ℕ) (bytes : List ℕ) → 64 ≤ r.limits.length → IsDigit byte → BigBegun r negative [] level bytes →
    BigBegun r negative (kept_of byte) level (bytes ++ byte ∷ [])
digit_more r negative level byte bytes roomy d w =
    let left : significant_digits ((w.first ∷ w.digits) ++ byte ∷ []) ≡ kept_of byte = stripped-first (w.first ∷ w.digits) byte w.left in
    record {
      sign = w.sign;
      first = w.first;
      digits = w.digits ++ byte ∷ [];
      is_signed = w.is_signed;
      token = number_token_more r Big w.sign (w.first ∷ w.digits) level byte bytes d
          (w.token.may_be.0, omega (arith, roomy, length-kept_of byte, ap (λ z. length (zero_if_none z)) left)) w.token;
      left = left;
      zero = λ n. kept_of-zero byte d (omega (arith, number-digit (w.first ∷ w.digits) byte, n));
    }

-- a first digit, after the type byte or a sign
digit_begins : (r : Rules) (negative : Bool) (byte level : ℕ) (bytes : List ℕ) (shown : List Event) → IsDigit byte →
    AnySign r Big negative byte level bytes shown → BigBegun r negative (kept_of byte) level (bytes ++ byte ∷ [])
digit_begins r negative byte level bytes shown d w = record {
  sign = w.sign;
  first = byte;
  digits = [];
  is_signed = w.is_signed;
  token = number_token_begins r Big w.sign level byte bytes d (w.token.0.0, omega (arith, w.token.0.1, length-kept_of byte)) w.token;
  left = refl;
  zero = λ n. kept_of-zero byte d (omega (arith, n));
}

-- the text begins by the digit, which is owed
owes : (r : Rules) (negative : Bool) (level byte : ℕ) (bytes : List ℕ) (shown : List Event) → 64 ≤ r.limits.length → shown ≡ [] →
    BigBegun r negative (byte ∷ []) level bytes → BigDigitOwed r byte (r.limits.length - 1) level bytes (shown ++ e.Text (e.Big negative) ∷ [])
owes r negative level byte bytes shown roomy none w = record {
  negative = negative;
  token = w;
  leaves = omega (arith, roomy);
  told =
      ap (λ z. z ++ e.Text (e.Big negative) ∷ []) none;
}

-- a digit where none or zeros alone stand
big_digit_leads : (s : Place) (T : ℕ → List ℕ → List Event → Type 0) (negative : Bool) (byte : ℕ) (front : List ℕ) (es : List Event) → 64 ≤ s.bounds.length →
    IsInside (rules_of s) T s.frames front es → ((level : ℕ) (bytes : List ℕ) (shown : List Event) → T level bytes shown → shown ≡ []) →
    ((level : ℕ) (bytes : List ℕ) (shown : List Event) → T level bytes shown → BigBegun (rules_of s) negative (kept_of byte) level (bytes ++ byte ∷ [])) →
    Leads s front es byte (big_digit s negative byte)
big_digit_leads s T negative byte front es roomy w none =
    let r = rules_of s in
    if_equal byte 48 (λ x. ((level : ℕ) (bytes : List ℕ) (shown : List Event) → T level bytes shown →
    BigBegun r negative (cond x [] (byte ∷ [])) level (bytes ++ byte ∷ [])) → Leads s front es byte (cond x (Go (at s (InBigZeros negative)))
    (Give (k.Text (text.Big negative)) (at s (AtBigDigit byte (s.bounds.length - 1))))))
    (λ is begun. goes r T (b.TokenHas r (InBigZeros negative)) s.frames front (byte ∷ []) es w
    (λ level bytes shown i t. (begun level bytes shown t, none level bytes shown t)))
    (λ other begun. tells r T (BigDigitOwed r byte (s.bounds.length - 1)) s.frames front (byte ∷ []) es (e.Text (e.Big negative) ∷ []) w
    (λ level bytes shown i t. owes r negative level byte (bytes ++ byte ∷ []) shown roomy (none level bytes shown t) (begun level bytes shown t)))

first_leads : (s : Place) (T : ℕ → List ℕ → List Event → Type 0) (negative : Bool) (byte : ℕ) (front : List ℕ) (es : List Event) → 64 ≤ s.bounds.length →
    IsInside (rules_of s) T s.frames front es → ((level : ℕ) (bytes : List ℕ) (shown : List Event) → T level bytes shown →
    AnySign (rules_of s) Big negative byte level bytes shown) → Leads s front es byte (big_first s negative byte)
first_leads s T negative byte front es roomy w any = first_digit_leads s T Big negative byte _ front es w any
    (λ d. big_digit_leads s T negative byte front es roomy w (λ level bytes shown t. (any level bytes shown t).told)
    (λ level bytes shown t. digit_begins (rules_of s) negative byte level bytes shown d (any level bytes shown t)))

-- every byte after `(`
pub big_sign_leads : (s : Place) → ALead (at s AtBigSign)
big_sign_leads s used byte front es is_byte c w =
    signs_lead (at s AtBigSign) Big AtBigFirst used byte _ front es c w (λ sign level bytes t. t.0) (λ negative x. x)
    (λ no_plus no_minus. first_leads (at s AtBigSign) (b.TokenHas (rules_of s) AtBigSign) false byte front es c.sound.bounds.length_in_range.0 w
    (λ level bytes shown t. unsigned_any (rules_of s) Big byte level bytes shown no_plus no_minus t))

-- every byte after a big number's sign
pub big_first_leads : (s : Place) (negative : Bool) → ALead (at s (AtBigFirst negative))
big_first_leads s negative used byte front es is_byte c w =
    first_leads (at s (AtBigFirst negative)) (SignBegun (rules_of s) Big negative) negative byte front es c.sound.bounds.length_in_range.0 w
    (λ level bytes shown t. signed_any (rules_of s) Big negative byte level bytes shown t)

-- Zeros.

zeros_return : (r : Rules) (negative : Bool) (level : ℕ) (bytes : List ℕ) (shown : List Event) → BigBegun r negative [] level bytes × (shown ≡ []) →
    ZeroReturned r level (bytes ++ 13 ∷ []) shown
zeros_return r negative level bytes shown w = record {
  sign = w.0.sign;
  digits = w.0.first ∷ w.0.digits;
  returned = record { begun = bytes; line_of = number_token_line r Big w.0.sign (w.0.first ∷ w.0.digits) level bytes w.0.token; returned = refl };
  left = w.0.left;
  told = w.1;
}

zeros_digit_leads : (s : Place) (negative : Bool) (used byte : ℕ) (front : List ℕ) (es : List Event) → IsDigit byte →
    HasCountsOf (at s (InBigZeros negative)) used front → StandsAfter (at s (InBigZeros negative)) front es →
    Leads (at s (InBigZeros negative)) front es byte (cond (has_total_room (at s (InBigZeros negative)) (used + 1) 2)
    (big_digit (at s (InBigZeros negative)) negative byte) (Refuse cause.Total))
zeros_digit_leads s negative used byte front es d c w =
    let r = rules_of s in
    let q = at s (InBigZeros negative) in
    let T = b.TokenHas r (InBigZeros negative) in
    let roomy : 64 ≤ s.bounds.length = c.sound.bounds.length_in_range.0 in
    let more : (level : ℕ) (bytes : List ℕ) (shown : List Event) → T level bytes shown → BigBegun r negative (kept_of byte) level (bytes ++ byte ∷ []) =
    λ level bytes shown t. digit_more r negative level byte bytes roomy d t.0 in
    fits_or_total q (λ level bytes shown. BigBegun r negative (kept_of byte) level bytes) front es es used byte 2 (big_digit q negative byte) c
    (goes r T _ s.frames front (byte ∷ []) es w (λ level bytes shown i t. more level bytes shown t))
    (λ level bytes shown i t. row_of r negative (kept_of byte) level bytes t)
    (big_digit_leads q T negative byte front es roomy w (λ level bytes shown t. t.1) more)

-- every byte after a big number's zeros
pub big_zeros_lead : (s : Place) (negative : Bool) → ALead (at s (InBigZeros negative))
big_zeros_lead s negative used byte front es is_byte c w =
    let r = rules_of s in
    by_digit (at s (InBigZeros negative)) front es byte _ _
    (λ d. zeros_digit_leads s negative used byte front es d c w)
    (λ d. wants_leads (at s (InBigZeros negative)) (b.TokenHas r (InBigZeros negative)) front es 2 byte 13 (Go (at s AtBigZeroLf)) w
    (λ level bytes shown i t. row_of r negative [] level bytes t.0)
    (λ other level bytes rest shown t dead. digits_dead r Big t.0.sign t.0.first level byte t.0.digits bytes rest other d t.0.token dead)
    (λ is. subst (λ z. StandsAfter (at s AtBigZeroLf) (front ++ z ∷ []) es) (sym is)
    (goes r (b.TokenHas r (InBigZeros negative)) (ZeroReturned r) s.frames front (13 ∷ []) es w
    (λ level bytes shown i t. zeros_return r negative level bytes shown t))))

zero_is_positive : (sign : Sign) (digits : List ℕ) → significant_digits digits ≡ [] → is_below_zero sign digits ≡ false
zero_is_positive sign digits none =
    let n : number digits ≡ 0 = sym (number-stripped digits) ∙ ap number none in
    ap (λ m. cond (eqb m 0) false (is_minus sign)) n

zero_ends : (r : Rules) (level : ℕ) (bytes : List ℕ) (shown : List Event) → ZeroReturned r level bytes shown →
    TextWhole r level (bytes ++ 10 ∷ []) (shown ++ e.Text (e.Big false) ∷ [])
zero_ends r level bytes shown w =
    let l = numeral Big w.sign w.digits in
    let last = last_of 0 (leaf_text l) in
    record {
      leaf = l;
      is_leaf = w.returned.line_of.is_leaf;
      keeps = w.returned.line_of.keeps;
      whole = returned_whole r l level bytes w.returned;
      told = ap (λ x. without_places (big_events x (significant_digits w.digits) last)) (zero_is_positive w.sign w.digits w.left) ∙
          ap (λ x. without_places (big_events false x last)) w.left ∙ ap (λ z. (z ++ e.Text (e.Big false) ∷ []) ++ e.TextEnd ∷ []) (sym w.told);
    }

-- every byte after the CR of a big number of zeros alone
pub big_zero_end_leads : (s : Place) → ALead (at s AtBigZeroLf)
big_zero_end_leads s used byte front es is_byte c w =
    let r = rules_of s in
    wants_leads (at s AtBigZeroLf) (ZeroReturned r) front es 1 byte 10 (Give (k.Text (text.Big false)) (at s AtTextEnd)) w
    (λ level bytes shown i t. returned_begun r (numeral Big t.sign t.digits) level bytes t.returned)
    (λ other level bytes rest shown t dead. returned_broken r (numeral Big t.sign t.digits) level bytes rest byte other t.returned dead)
    (λ is. subst (λ z. StandsAfter (at s AtTextEnd) (front ++ z ∷ []) (es ++ e.Text (e.Big false) ∷ [])) (sym is)
    (tells r (ZeroReturned r) (TextWhole r) s.frames front (10 ∷ []) es (e.Text (e.Big false) ∷ []) w
    (λ level bytes shown i t. zero_ends r level bytes shown t)))

-- What is owed.

digit_shown : (r : Rules) (digit room level : ℕ) (bytes : List ℕ) (shown : List Event) → BigDigitOwed r digit room level bytes shown →
    BigShown r room level (bytes ++ []) (shown ++ e.Byte digit ∷ [])
digit_shown r digit room level bytes shown w = record {
  negative = w.negative;
  digit = digit;
  digits = [];
  token =
      subst (BigBegun r w.negative (digit ∷ []) level) (sym (append-nil bytes)) w.token;
  leaves = w.leaves;
  told = ap (λ z. z ++ e.Byte digit ∷ []) w.told;
}

-- the digit that is owed is given without a byte
pub big_digit_is_owed : (s : Place) (digit room : ℕ) (front : List ℕ) (es : List Event) → StandsAfter (at s (AtBigDigit digit room)) front es →
    StandsAfter (at s (InBig room)) front (es ++ e.Byte digit ∷ [])
big_digit_is_owed s digit room front es w =
    let r = rules_of s in
    subst (λ z. StandsAfter (at s (InBig room)) z (es ++ e.Byte digit ∷ [])) (append-nil front)
    (tells r (BigDigitOwed r digit room) (BigShown r room) s.frames front [] es (e.Byte digit ∷ []) w
    (λ level bytes shown i t. digit_shown r digit room level bytes shown t))

text_ends : (r : Rules) (level : ℕ) (bytes : List ℕ) (shown : List Event) → TextWhole r level bytes shown → Ends r level (bytes ++ []) (shown ++ e.TextEnd ∷ [])
text_ends r level bytes shown w = record {
  tree = leaf w.leaf;
  is_tree = w.is_leaf;
  keep = w.keeps;
  whole = w.whole ∙ sym (append-nil bytes);
  told =
      leaf_told w.leaf (shown ++ e.TextEnd ∷ []) w.told;
}

-- the end of a text that is owed is given without a byte
pub text_end_is_owed : (s : Place) (front : List ℕ) (es : List Event) → StandsAfter (at s AtTextEnd) front es →
    StandsAfter (at_boundary s) front (es ++ e.TextEnd ∷ [])
text_end_is_owed s front es w =
    let r = rules_of s in
    subst (λ z. StandsAfter (at_boundary s) z (es ++ e.TextEnd ∷ [])) (append-nil front)
    (value_ends r (TextWhole r) s.frames front [] es (e.TextEnd ∷ []) w (λ level bytes shown i t. text_ends r level bytes shown t))

-- Further digits.

digits_more : (r : Rules) (room byte level : ℕ) (bytes : List ℕ) (shown : List Event) → IsDigit byte → 0 < room → BigShown r room level bytes shown →
    BigShown r (room - 1) level (bytes ++ byte ∷ []) (shown ++ e.Byte byte ∷ [])
digits_more r room byte level bytes shown d some w =
    let t = w.token in
    let longer : significant_digits ((t.first ∷ t.digits) ++ byte ∷ []) ≡ w.digit ∷ (w.digits ++ byte ∷ []) =
    stripped-more (t.first ∷ t.digits) byte w.digit w.digits t.left in
    record {
      negative = w.negative;
      digit = w.digit;
      digits = w.digits ++ byte ∷ [];
      token = record {
        sign = t.sign;
        first = t.first;
        digits = t.digits ++ byte ∷ [];
        is_signed = t.is_signed;
        token = number_token_more r Big t.sign (t.first ∷ t.digits) level byte bytes d
            (t.token.may_be.0, omega (arith, w.leaves, some, ap (λ z. length (zero_if_none z)) longer, length-append w.digits (byte ∷ []))) t.token;
        left = longer;
        zero = λ n. absurd (omega (arith, ap length (t.zero (omega (arith, n, number-digit (t.first ∷ t.digits) byte)))));
      };
      leaves = omega (arith, w.leaves, some, length-append w.digits (byte ∷ []));
      told = ap (λ z. z ++ e.Byte byte ∷ []) w.told ∙ ap (λ z. e.Text (e.Big w.negative) ∷ z) (sym (content_events-append (w.digit ∷ w.digits) (byte ∷ [])));
    }

-- digits of a big number of which some were given: 2
pub shown_row : (r : Rules) (room level : ℕ) (bytes : List ℕ) (shown : List Event) → BigShown r room level bytes shown → IsBegunBy r level bytes 2
shown_row r room level bytes shown w = row_of r w.negative (w.digit ∷ w.digits) level bytes w.token

past_length : (r : Rules) (room byte level : ℕ) (bytes : List ℕ) (shown : List Event) → IsDigit byte → room ≡ 0 → BigShown r room level bytes shown →
    (head : ℕ) × (tail : List ℕ) × (bytes ++ byte ∷ [] ≡ head ∷ tail) × IsRefusedHere r WithinLength WithinDepth level (head ∷ tail)
past_length r room byte level bytes shown d full w =
    let t = w.token in
    let longer : significant_digits ((t.first ∷ t.digits) ++ byte ∷ []) ≡ w.digit ∷ (w.digits ++ byte ∷ []) =
    stripped-more (t.first ∷ t.digits) byte w.digit w.digits t.left in
    let over = big_token_over r t.sign t.first t.digits level byte bytes d
    (omega (arith, w.leaves, full, ap (λ z. length (zero_if_none z)) longer, length-append w.digits (byte ∷ []))) t.token in
    (_, _, over.0, over.1)

positive_is : (sign : Sign) (negative : Bool) (digits : List ℕ) → is_minus sign ≡ negative → (number digits ≡ 0 → ⊥) → is_below_zero sign digits ≡ negative
positive_is sign negative digits e some = let z : eqb (number digits) 0 ≡ false = grind (arith, nat_tests) in ap (λ x. cond x false (is_minus sign)) z ∙ e

shown_returns : (r : Rules) (room level : ℕ) (bytes : List ℕ) (shown : List Event) → BigShown r room level bytes shown →
    TextReturned r level (bytes ++ 13 ∷ []) shown
shown_returns r room level bytes shown w =
    let t = w.token in
    let ds = t.first ∷ t.digits in
    let l = numeral Big t.sign ds in
    let last = last_of 0 (leaf_text l) in
    record {
      leaf = l;
      returned = record { begun = bytes; line_of = number_token_line r Big t.sign ds level bytes t.token; returned = refl };
      told = ap (λ x. without_places (big_events x (significant_digits ds) last))
          (positive_is t.sign w.negative ds t.is_signed (λ n. omega (arith, ap length (t.zero n)))) ∙
          ap (λ x. without_places (big_events w.negative x last)) t.left ∙ given-big w.negative w.digit w.digits last ∙
          ap (λ z. z ++ e.TextEnd ∷ []) (sym w.told);
      begun = λ negative same. (let one : e.Text (e.Big w.negative) ∷ content_events (w.digit ∷ w.digits) ≡ e.Text (e.Big negative) ∷ [] = sym w.told ∙ same in
          cc);
    }

big_byte_leads : (s : Place) (room used byte : ℕ) (front : List ℕ) (es : List Event) → IsDigit byte → HasCountsOf (at s (InBig room)) used front →
    StandsAfter (at s (InBig room)) front es → Leads (at s (InBig room)) front es byte (content_byte (at s (InBig room)) (used + 1) room InBig)
big_byte_leads s room used byte front es d c w =
    let r = rules_of s in
    if_equal room 0 (λ z. Leads (at s (InBig room)) front es byte
    (cond z (Refuse cause.Length) (cond (has_total_room (at s (InBig room)) (used + 1) 2) (Byte (at s (InBig (room - 1)))) (Refuse cause.Total))))
    (λ full. refused r (BigShown r room) WithinLength WithinDepth s.frames front (byte ∷ []) es refl (omega arith) w
    (λ level bytes shown i t. past_length r room byte level bytes shown d full t))
    (λ some.
    let more = tells r (BigShown r room) (BigShown r (room - 1)) s.frames front (byte ∷ []) es (e.Byte byte ∷ []) w
    (λ level bytes shown i t. digits_more r room byte level bytes shown d (positive room some) t) in
    fits_or_total (at s (InBig room)) (BigShown r (room - 1)) front es (es ++ e.Byte byte ∷ []) used byte 2 (Byte (at s (InBig (room - 1)))) c more
    (λ level bytes shown i t. shown_row r (room - 1) level bytes shown t) more)

-- every byte after a big number's digits
pub big_leads : (s : Place) (room : ℕ) → ALead (at s (InBig room))
big_leads s room used byte front es is_byte c w =
    let r = rules_of s in
    by_digit (at s (InBig room)) front es byte _ _
    (λ d. big_byte_leads s room used byte front es d c w)
    (λ d. wants_leads (at s (InBig room)) (BigShown r room) front es 2 byte 13 (Go (at s AtLineLf)) w
    (λ level bytes shown i t. shown_row r room level bytes shown t)
    (λ other level bytes rest shown t dead. digits_dead r Big t.token.sign t.token.first level byte t.token.digits bytes rest other d t.token.token dead)
    (λ is. subst (λ z. StandsAfter (at s AtLineLf) (front ++ z ∷ []) es) (sym is)
    (goes r (BigShown r room) (TextReturned r) s.frames front (13 ∷ []) es w (λ level bytes shown i t. shown_returns r room level bytes shown t))))
