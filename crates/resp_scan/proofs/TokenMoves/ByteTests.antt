-- Moves that a test of the byte decides.
use Rattle.std.specs.Prelude.{◌≡◌, ℕ, Bool, true, false, ◌&&◌, cond, eqb, nat_le, Option, Some, List, [], ◌∷◌, ◌++◌, length, refl}
use Rattle.std.proofs.Common.{arith}
use Rattle.resp_value.specs.Numbers.{IsDigit}
use Rattle.resp_value.specs.Rules.{Grammar}
use Rattle.resp_value.specs.declared.cause.Cause.{Cause}
use Rattle.resp_value.specs.declared.cause.Cause.TheVariants as cause
use Rattle.resp_value.proofs.Choices.{if_equal, if_within}
use Rattle.resp_fronts.specs.Events.{Event}
use Rattle.resp_fronts.proofs.FirstLines.CountRows.{CompletesUnder}
use Rattle.resp_fronts.proofs.Tokens.BegunFronts.{IsBegunBy}
use Rattle.resp_scan.specs.Machine.Tokens.{Move, Place, Refuse}
use Rattle.resp_scan.specs.Machine.Moves.{is_digit, move_unless, only_byte}
use Rattle.resp_scan.specs.Kinds.{IsRefusedFor, rules_of}
use Rattle.resp_scan.specs.Machine.Standing.{IsInside, Leads}
use Rattle.resp_scan.proofs.TokenMoves.RefusedMoves.{broken}

-- whether a byte is a digit
pub if_digit : (b : ℕ) (P : Bool → Type 0) → (IsDigit b → P true) → ((IsDigit b → ⊥) → P false) → P (is_digit b)
if_digit b P holds fails =
    if_within 48 b (λ x. P (x && nat_le b 57)) (λ low. if_within b 57 P (λ high. holds (low, high)) (λ high. fails (λ d. omega (arith, high, d.1))))
    (λ low. fails (λ d. omega (arith, low, d.0)))

-- a move that a test chooses leads on where either move does under its answer
pub by_test : (s : Place) (front : List ℕ) (es : List Event) (byte : ℕ) (b : Bool) (v w : Move) → (b ≡ true → Leads s front es byte v) →
    (b ≡ false → Leads s front es byte w) → Leads s front es byte (cond b v w)
by_test s front es byte true v w holds fails = holds refl
by_test s front es byte false v w holds fails = fails refl

-- a move after a test that refuses leads on where the cause is the front's and where the move does
pub unless_test : (s : Place) (front : List ℕ) (es : List Event) (byte : ℕ) (b : Bool) (c : Cause) (other : Option Cause) (v : Move) →
    (b ≡ true → IsRefusedFor (rules_of s) (front ++ byte ∷ []) c) → (b ≡ false → Leads s front es byte (move_unless other v)) →
    Leads s front es byte (move_unless (cond b (Some c) other) v)
unless_test s front es byte true c other v holds fails = holds refl
unless_test s front es byte false c other v holds fails = fails refl

-- a move by whether the byte is this one
pub by_byte : (s : Place) (front : List ℕ) (es : List Event) (x byte : ℕ) (v w : Move) → (byte ≡ x → Leads s front es byte v) →
    ((byte ≡ x → ⊥) → Leads s front es byte w) → Leads s front es byte (cond (eqb byte x) v w)
by_byte s front es x byte v w = if_equal byte x (λ z. Leads s front es byte (cond z v w))

-- a move by whether the byte is a digit
pub by_digit : (s : Place) (front : List ℕ) (es : List Event) (byte : ℕ) (v w : Move) → (IsDigit byte → Leads s front es byte v) →
    ((IsDigit byte → ⊥) → Leads s front es byte w) → Leads s front es byte (cond (is_digit byte) v w)
by_digit s front es byte v w = if_digit byte (λ z. Leads s front es byte (cond z v w))

-- this byte alone goes on
pub wanted : (s : Place) (front : List ℕ) (es : List Event) (x byte : ℕ) (v : Move) → (byte ≡ x → Leads s front es byte v) →
    ((byte ≡ x → ⊥) → IsRefusedFor (rules_of s) (front ++ byte ∷ []) cause.Syntax) → Leads s front es byte (only_byte x byte v)
wanted s front es x byte v = by_byte s front es x byte v (Refuse cause.Syntax)

-- one byte alone goes on after what a token has; any other is refused by the grammar
pub wants_leads : (s : Place) (T : ℕ → List ℕ → List Event → Type 0) (front : List ℕ) (es : List Event) (n byte x : ℕ) (v : Move) →
    IsInside (rules_of s) T s.frames front es → ((level : ℕ) (bytes : List ℕ) (shown : List Event) → level ≡ length s.frames → T level bytes shown →
    IsBegunBy (rules_of s) level bytes n) → ((byte ≡ x → ⊥) → (level : ℕ) (bytes rest : List ℕ) (shown : List Event) → T level bytes shown →
    CompletesUnder (rules_of s) Grammar level bytes (byte ∷ rest) → ⊥) → (byte ≡ x → Leads s front es byte v) → Leads s front es byte (only_byte x byte v)
wants_leads s T front es n byte x v w row dead leads =
    wanted s front es x byte v leads (λ other. broken (rules_of s) T s.frames front es n byte w row (dead other))
