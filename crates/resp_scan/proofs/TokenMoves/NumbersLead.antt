-- Integers.
use Rattle.std.specs.Prelude.{Bool, true, false, cond, eqb}
use Rattle.std.proofs.Common.{◌≡◌, ℕ, ◌+◌, ◌-◌, ◌*◌, ◌<◌, ◌≤◌, List, [], ◌∷◌, ◌++◌, refl, sym, ap, subst, ◌∙◌, arith, append-nil}
use Rattle.resp_value.specs.Bytes.{IsLine}
use Rattle.resp_value.specs.Numbers.{IsDigit, Sign, Unsigned, Plus, Minus, is_minus, number, sign_text, signed_value}
use Rattle.resp_value.specs.Rules.{Rules, Grammar, InRange, PushAtTop}
use Rattle.resp_value.specs.LocalRules.{LeafKeeps, NodeKeeps}
use Rattle.resp_value.specs.Trees.{leaf, numeral, NumberKind, Int, Big, number_byte}
use Rattle.resp_value.specs.declared.cause.Cause.TheVariants as cause
use Rattle.resp_value.proofs.DigitLemmas.{number-digit}
use Rattle.resp_value.proofs.Choices.{if_within}
use Rattle.resp_fronts.specs.Events.{Event}
use Rattle.resp_fronts.specs.Events as e
use Rattle.resp_fronts.proofs.FirstLines.CountRows.{CompletesUnder, IsRefusedHere}
use Rattle.resp_fronts.proofs.Tokens.BegunFronts.{IsBegunBy}
use Rattle.resp_fronts.proofs.Refusals.BrokenLines.{line_broken}
use Rattle.resp_fronts.proofs.Refusals.BrokenHeads.{number_begun_broken, number_broken, number_short}
use Rattle.resp_fronts.proofs.Tokens.LineTokens.{line_begun, returned_begun, returned_broken, returned_whole, line_of_broken}
use Rattle.resp_fronts.proofs.Tokens.NumberTokens.{int_token_over, number_begun, number_token_begins, number_token_line, number_token_more}
use Rattle.resp_fronts.specs.Tokens.{IsNumberBegun, IsNumberToken, MayBe, greatest}
use Rattle.resp_scan.specs.Machine.Magnitudes.{greatest_magnitude}
use Rattle.resp_scan.specs.Machine.Tokens as k
use Rattle.resp_scan.specs.Machine.Tokens.{Go, Give, Move, Refuse, Place, Token, AtIntFirst, AtIntLf, AtIntSign, InInt, at, at_boundary}
use Rattle.resp_scan.specs.Machine.Room.{has_total_room, over_total}
use Rattle.resp_scan.specs.Machine.Moves as machine
use Rattle.resp_scan.specs.Machine.Moves.{int_digit, int_first, is_digit, move_unless, only_byte}
use Rattle.resp_scan.specs.Kinds.{rules_of}
use Rattle.resp_scan.specs.Machine.Beginnings as b
use Rattle.resp_scan.specs.Machine.Beginnings.{IntBegun, IntReturned, IsSigned, SignBegun}
use Rattle.resp_scan.specs.Machine.Standing.{HasCountsOf, IsInside, Leads, StandsAfter}
use Rattle.resp_scan.proofs.TokenMoves.Moves.{Ends, goes, value_ends, ALead}
use Rattle.resp_scan.proofs.TokenMoves.RefusedMoves.{broken, fits_or_total, refused, unless_over}
use Rattle.resp_scan.proofs.TokenMoves.ByteTests.{by_byte, by_digit, wants_leads}

-- a byte of a number's beginning that no spelling has there
pub begun_line : (k : NumberKind) (sign : Sign) → IsLine (number_byte k ∷ (sign_text sign ++ []))
begun_line Int Unsigned = ((λ z. omega arith, λ z. omega arith), tt)
begun_line Big Unsigned = ((λ z. omega arith, λ z. omega arith), tt)
begun_line _ _ = ((λ z. omega arith, λ z. omega arith), ((λ z. omega arith, λ z. omega arith), tt))

-- no byte but a sign or a digit goes on after a number's type byte, and none but a digit after its sign
pub begun_dead : (r : Rules) (k : NumberKind) (sign : Sign) (level byte : ℕ) (bytes rest : List ℕ) → (sign ≡ Unsigned → (byte ≡ 43 → ⊥) × (byte ≡ 45 → ⊥)) →
    (IsDigit byte → ⊥) → IsNumberBegun r k sign level bytes → CompletesUnder r Grammar level bytes (byte ∷ rest) → ⊥
begun_dead r k sign level byte bytes rest no_sign no_digit w c =
    line_broken (LeafKeeps r Grammar) (NodeKeeps r Grammar) level (number_byte k ∷ (sign_text sign ++ [])) rest byte (begun_line k sign) (number_short k sign)
    (number_begun_broken k sign byte no_sign no_digit) (subst (λ z. CompletesUnder r Grammar level z (byte ∷ rest)) w.1 c)

-- no byte but a digit or CR goes on after a number's digits
pub digits_dead : (r : Rules) (k : NumberKind) (sign : Sign) (first level byte : ℕ) (digits bytes rest : List ℕ) → (byte ≡ 13 → ⊥) → (IsDigit byte → ⊥) →
    IsNumberToken r k sign (first ∷ digits) level bytes → CompletesUnder r Grammar level bytes (byte ∷ rest) → ⊥
digits_dead r k sign first level byte digits bytes rest no_return no_digit w =
    line_of_broken r (numeral k sign (first ∷ digits)) level bytes rest byte no_return (number_broken k sign first digits byte w.are_digits.1.0 no_digit)
    (number_token_line r k sign (first ∷ digits) level bytes w)

-- a number without a digit needs one, and its line's end
pub begun_row : (r : Rules) (k : NumberKind) (negative : Bool) (level : ℕ) (bytes : List ℕ) (shown : List Event) → SignBegun r k negative level bytes shown →
    IsBegunBy r level bytes 3
begun_row r k negative level bytes shown w = number_begun r k w.sign level bytes w.token

-- after a digit it needs the end alone
pub digits_row : (r : Rules) (k : NumberKind) (sign : Sign) (digits : List ℕ) (level : ℕ) (bytes : List ℕ) → IsNumberToken r k sign digits level bytes →
    IsBegunBy r level bytes 2
digits_row r k sign digits level bytes w = line_begun r (numeral k sign digits) level bytes (number_token_line r k sign digits level bytes w)

-- a sign
pub sign_more : (r : Rules) (k : NumberKind) (level : ℕ) (bytes : List ℕ) (sign : Sign) (byte : ℕ) → MayBe r k sign (48 ∷ []) → sign_text sign ≡ byte ∷ [] →
    IsNumberBegun r k Unsigned level bytes → IsNumberBegun r k sign level (bytes ++ byte ∷ [])
sign_more r k level bytes sign byte has_total_room is w = (
  has_total_room,
  ap (λ z. z ++ byte ∷ []) w.1 ∙
      ap (λ z. number_byte k ∷ z) (sym (append-nil (sign_text sign) ∙ is)),
)

-- a number's beginning, with a sign or without
pub record AnySign (r : Rules) (k : NumberKind) (negative : Bool) (byte level : ℕ) (bytes : List ℕ) (shown : List Event) : Type 0 where
  pub sign : Sign
  pub is_signed : is_minus sign ≡ negative
  pub token : IsNumberBegun r k sign level bytes
  pub told : shown ≡ []
  pub no_sign : sign ≡ Unsigned → (byte ≡ 43 → ⊥) × (byte ≡ 45 → ⊥)

-- the sign of a number, as its token has it
pub signed_any : (r : Rules) (k : NumberKind) (negative : Bool) (byte level : ℕ) (bytes : List ℕ) (shown : List Event) →
    SignBegun r k negative level bytes shown → AnySign r k negative byte level bytes shown
signed_any r k negative byte level bytes shown w = record {
  sign = w.sign;
  is_signed = minus w.sign negative w.is_signed;
  token = w.token;
  told =
      w.told;
  no_sign = λ e. absurd (no_unsigned w.sign negative w.is_signed e);
}
  where
    minus : (sign : Sign) (negative : Bool) → IsSigned negative sign → is_minus sign ≡ negative
    minus Unsigned negative p = absurd p
    minus Plus negative p = sym p
    minus Minus negative p = sym p

    no_unsigned : (sign : Sign) (negative : Bool) → IsSigned negative sign → sign ≡ Unsigned → ⊥
    no_unsigned Unsigned negative p e = p
    no_unsigned Plus negative p e = cc
    no_unsigned Minus negative p e = cc

-- a number without a sign, as its token has it
pub unsigned_any : (r : Rules) (k : NumberKind) (byte level : ℕ) (bytes : List ℕ) (shown : List Event) → (byte ≡ 43 → ⊥) → (byte ≡ 45 → ⊥) →
    IsNumberBegun r k Unsigned level bytes × (shown ≡ []) → AnySign r k false byte level bytes shown
unsigned_any r k byte level bytes shown no_plus no_minus w = record {
  sign = Unsigned;
  is_signed = refl;
  token = w.0;
  told = w.1;
  no_sign =
      λ e. (no_plus, no_minus);
}

greatest_is : (sign : Sign) → greatest sign ≡ greatest_magnitude (is_minus sign)
greatest_is Unsigned = refl
greatest_is _ = refl

one_digit : (sign : Sign) (digit : ℕ) → IsDigit digit → number (digit ∷ []) ≤ greatest sign
one_digit Unsigned digit d = omega (arith, d.1)
one_digit _ digit d = omega (arith, d.1)

int_begins : (r : Rules) (negative : Bool) (byte level : ℕ) (bytes : List ℕ) (shown : List Event) → IsDigit byte →
    AnySign r Int negative byte level bytes shown → IntBegun r negative (byte - 48) level (bytes ++ byte ∷ []) shown
int_begins r negative byte level bytes shown d w = record {
  sign = w.sign;
  first = byte;
  digits = [];
  is_signed = w.is_signed;
  token = number_token_begins r Int w.sign level byte bytes d (one_digit w.sign byte d) w.token;
  valued = omega arith;
  told = w.told;
}

-- a first digit, after the type byte or a sign: any other byte is refused
pub first_digit_leads : (s : Place) (T : ℕ → List ℕ → List Event → Type 0) (k : NumberKind) (negative : Bool) (byte : ℕ) (v : Move) (front : List ℕ)
    (es : List Event) → IsInside (rules_of s) T s.frames front es → ((level : ℕ) (bytes : List ℕ) (shown : List Event) → T level bytes shown →
    AnySign (rules_of s) k negative byte level bytes shown) → (IsDigit byte → Leads s front es byte v) →
    Leads s front es byte (cond (is_digit byte) v (Refuse cause.Syntax))
first_digit_leads s T k negative byte v front es w any digit =
    let r = rules_of s in
    by_digit s front es byte _ _ digit
    (λ d. broken r T s.frames front es 3 byte w (λ level bytes shown i t. let a = any level bytes shown t in number_begun r k a.sign level bytes a.token)
    (λ level bytes rest shown t c. let a = any level bytes shown t in begun_dead r k a.sign level byte bytes rest a.no_sign d a.token c))

first_leads : (s : Place) (T : ℕ → List ℕ → List Event → Type 0) (negative : Bool) (byte : ℕ) (front : List ℕ) (es : List Event) →
    IsInside (rules_of s) T s.frames front es → ((level : ℕ) (bytes : List ℕ) (shown : List Event) → T level bytes shown →
    AnySign (rules_of s) Int negative byte level bytes shown) → Leads s front es byte (int_first s negative byte)
first_leads s T negative byte front es w any = first_digit_leads s T Int negative byte _ front es w any
    (λ d. goes (rules_of s) T (IntBegun (rules_of s) negative (byte - 48)) s.frames front (byte ∷ []) es w
    (λ level bytes shown i t. int_begins (rules_of s) negative byte level bytes shown d (any level bytes shown t)))

-- after the type byte a sign that total lets stand, or what stands there without one
pub signs_lead : (s : Place) (k : NumberKind) (first : Bool → Token) (used byte : ℕ) (unsigned : Move) (front : List ℕ) (es : List Event) →
    HasCountsOf s used front → IsInside (rules_of s) (λ level bytes shown. IsNumberBegun (rules_of s) k Unsigned level bytes × (shown ≡ [])) s.frames front es →
    ((sign : Sign) (level : ℕ) (bytes : List ℕ) → IsNumberBegun (rules_of s) k Unsigned level bytes → MayBe (rules_of s) k sign (48 ∷ [])) →
    ((negative : Bool) → IsInside (rules_of s) (SignBegun (rules_of s) k negative) s.frames (front ++ byte ∷ []) es →
    StandsAfter (at s (first negative)) (front ++ byte ∷ []) es) → ((byte ≡ 43 → ⊥) → (byte ≡ 45 → ⊥) → Leads s front es byte unsigned) →
    Leads s front es byte (cond (eqb byte 45) (move_unless (over_total s (used + 1) 3) (Go (at s (first true))))
    (cond (eqb byte 43) (move_unless (over_total s (used + 1) 3) (Go (at s (first false)))) unsigned))
signs_lead s k first used byte unsigned front es c w may_be lies leads =
    by_byte s front es 45 byte _ _ (λ is. sign Minus true (ap (λ z. z ∷ []) is) refl)
    (λ no_minus. by_byte s front es 43 byte _ _ (λ is. sign Plus false (ap (λ z. z ∷ []) is) refl) (λ no_plus. leads no_plus no_minus))
  where
    sign : (x : Sign) (negative : Bool) → byte ∷ [] ≡ sign_text x → IsSigned negative x →
        Leads s front es byte (move_unless (over_total s (used + 1) 3) (Go (at s (first negative))))
    sign x negative is signed_value =
        let r = rules_of s in
        let more : IsInside r (SignBegun r k negative) s.frames (front ++ byte ∷ []) es = goes r _ (SignBegun r k negative) s.frames front (byte ∷ []) es w
        (λ level bytes shown i t. record {
          sign = x;
          is_signed = signed_value;
          token = sign_more r k level bytes x byte (may_be x level bytes t.0) (sym is) t.0;
          told = t.1;
        }) in
        unless_over s front es used byte 3 (Go (at s (first negative)))
        (fits_or_total s (SignBegun r k negative) front es es used byte 3 (Go (at s (first negative))) c more
        (λ level bytes shown i t. begun_row r k negative level bytes shown t) (lies negative more))

-- every byte after `:`
pub int_sign_leads : (s : Place) → ALead (at s AtIntSign)
int_sign_leads s used byte front es is_byte c w =
    signs_lead (at s AtIntSign) Int AtIntFirst used byte _ front es c w (λ sign level bytes t. one_digit sign 48 (omega arith, omega arith)) (λ negative x. x)
    (λ no_plus no_minus. first_leads (at s AtIntSign) (b.TokenHas (rules_of s) AtIntSign) false byte front es w
    (λ level bytes shown t. unsigned_any (rules_of s) Int byte level bytes shown no_plus no_minus t))

-- every byte after an integer's sign
pub int_first_leads : (s : Place) (negative : Bool) → ALead (at s (AtIntFirst negative))
int_first_leads s negative used byte front es is_byte c w =
    first_leads (at s (AtIntFirst negative)) (SignBegun (rules_of s) Int negative) negative byte front es w
    (λ level bytes shown t. signed_any (rules_of s) Int negative byte level bytes shown t)

-- Digits.

int_goes_on : (r : Rules) (negative : Bool) (n byte level : ℕ) (bytes : List ℕ) (shown : List Event) → IsDigit byte →
    n * 10 + (byte - 48) ≤ greatest_magnitude negative → IntBegun r negative n level bytes shown →
    IntBegun r negative (n * 10 + (byte - 48)) level (bytes ++ byte ∷ []) shown
int_goes_on r negative n byte level bytes shown d has_total_room w =
    let value : number ((w.first ∷ w.digits) ++ byte ∷ []) ≡ n * 10 + (byte - 48) =
    number-digit (w.first ∷ w.digits) byte ∙ ap (λ m. m * 10 + (byte - 48)) w.valued in
    record {
      sign = w.sign;
      first = w.first;
      digits = w.digits ++ byte ∷ [];
      is_signed = w.is_signed;
      token = number_token_more r Int w.sign (w.first ∷ w.digits) level byte bytes d
          (omega (arith, value, greatest_is w.sign, ap greatest_magnitude w.is_signed)) w.token;
      valued = value;
      told = w.told;
    }

int_past : (r : Rules) (negative : Bool) (n byte level : ℕ) (bytes : List ℕ) (shown : List Event) → IsDigit byte →
    greatest_magnitude negative < n * 10 + (byte - 48) → IntBegun r negative n level bytes shown →
    (head : ℕ) × (tail : List ℕ) × (bytes ++ byte ∷ [] ≡ head ∷ tail) × IsRefusedHere r InRange PushAtTop level (head ∷ tail)
int_past r negative n byte level bytes shown d past w =
    let value : number ((w.first ∷ w.digits) ++ byte ∷ []) ≡ n * 10 + (byte - 48) =
    number-digit (w.first ∷ w.digits) byte ∙ ap (λ m. m * 10 + (byte - 48)) w.valued in
    let over = int_token_over r w.sign w.first w.digits level byte bytes d (omega (arith, value, greatest_is w.sign, ap greatest_magnitude w.is_signed))
    w.token in
    (_, _, over.0, over.1)

signed_is : (sign : Sign) (digits : List ℕ) → signed_value sign digits ≡ machine.with_sign (is_minus sign) (number digits)
signed_is Unsigned digits = refl
signed_is _ digits = refl

int_returns : (r : Rules) (negative : Bool) (n level : ℕ) (bytes : List ℕ) (shown : List Event) → IntBegun r negative n level bytes shown →
    IntReturned r negative n level (bytes ++ 13 ∷ []) shown
int_returns r negative n level bytes shown w = record {
  sign = w.sign;
  digits = w.first ∷ w.digits;
  returned = record { begun = bytes; line_of = number_token_line r Int w.sign (w.first ∷ w.digits) level bytes w.token; returned = refl };
  valued = signed_is w.sign (w.first ∷ w.digits) ∙ ap (λ x. machine.with_sign x (number (w.first ∷ w.digits))) w.is_signed ∙
      ap (machine.with_sign negative) w.valued;
  told = w.told;
}

-- an integer's digits
pub int_row : (r : Rules) (negative : Bool) (n level : ℕ) (bytes : List ℕ) (shown : List Event) → IntBegun r negative n level bytes shown →
    IsBegunBy r level bytes 2
int_row r negative n level bytes shown w = digits_row r Int w.sign (w.first ∷ w.digits) level bytes w.token

-- every byte after an integer's digits
pub int_leads : (s : Place) (negative : Bool) (n : ℕ) → ALead (at s (InInt negative n))
int_leads s negative n used byte front es is_byte c w =
    let r = rules_of s in
    let m = n * 10 + (byte - 48) in
    by_digit (at s (InInt negative n)) front es byte _ _
    (λ d. if_within m (greatest_magnitude negative) (λ x. Leads (at s (InInt negative n)) front es byte
    (cond x (cond (has_total_room (at s (InInt negative n)) (used + 1) 2) (Go (at s (InInt negative m))) (Refuse cause.Total)) (Refuse cause.Range)))
    (λ within.
    let more = goes r (IntBegun r negative n) (IntBegun r negative m) s.frames front (byte ∷ []) es w
    (λ level bytes shown i t. int_goes_on r negative n byte level bytes shown d within t) in
    fits_or_total (at s (InInt negative n)) (IntBegun r negative m) front es es used byte 2 (Go (at s (InInt negative m))) c more
    (λ level bytes shown i t. int_row r negative m level bytes shown t) more)
    (λ past. refused r (IntBegun r negative n) InRange PushAtTop s.frames front (byte ∷ []) es refl (omega arith) w
    (λ level bytes shown i t. int_past r negative n byte level bytes shown d past t)))
    (λ d. wants_leads (at s (InInt negative n)) (IntBegun r negative n) front es 2 byte 13 (Go (at s (AtIntLf negative n))) w
    (λ level bytes shown i t. int_row r negative n level bytes shown t)
    (λ other level bytes rest shown t dead. digits_dead r Int t.sign t.first level byte t.digits bytes rest other d t.token dead)
    (λ is. subst (λ z. StandsAfter (at s (AtIntLf negative n)) (front ++ z ∷ []) es) (sym is)
    (goes r (IntBegun r negative n) (IntReturned r negative n) s.frames front (13 ∷ []) es w
    (λ level bytes shown i t. int_returns r negative n level bytes shown t))))

int_ends : (r : Rules) (negative : Bool) (n level : ℕ) (bytes : List ℕ) (shown : List Event) → IntReturned r negative n level bytes shown →
    Ends r level (bytes ++ 10 ∷ []) (shown ++ e.Int (machine.with_sign negative n) ∷ [])
int_ends r negative n level bytes shown w = record {
  tree = leaf (numeral Int w.sign w.digits);
  is_tree = w.returned.line_of.is_leaf;
  keep = w.returned.line_of.keeps;
  whole = returned_whole r (numeral Int w.sign w.digits) level bytes w.returned;
  told = λ from. ap (λ z. e.Int z ∷ []) w.valued ∙ ap (λ z. z ++ e.Int (machine.with_sign negative n) ∷ []) (sym w.told);
}

-- every byte after an integer's CR
pub int_end_leads : (s : Place) (negative : Bool) (n : ℕ) → ALead (at s (AtIntLf negative n))
int_end_leads s negative n used byte front es is_byte c w =
    let r = rules_of s in
    wants_leads (at s (AtIntLf negative n)) (IntReturned r negative n) front es 1 byte 10 (Give (k.Int (machine.with_sign negative n)) (at_boundary s)) w
    (λ level bytes shown i t. returned_begun r (numeral Int t.sign t.digits) level bytes t.returned)
    (λ other level bytes rest shown t dead. returned_broken r (numeral Int t.sign t.digits) level bytes rest byte other t.returned dead)
    (λ is. subst (λ z. StandsAfter (at_boundary s) (front ++ z ∷ []) (es ++ e.Int (machine.with_sign negative n) ∷ [])) (sym is)
    (value_ends r (IntReturned r negative n) s.frames front (10 ∷ []) es (e.Int (machine.with_sign negative n) ∷ []) w
    (λ level bytes shown i t. int_ends r negative n level bytes shown t)))
