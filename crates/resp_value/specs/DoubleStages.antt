-- How far the text of a double has been read, byte by byte.
use Rattle.std.specs.Prelude.{ℕ, Bool, false, ◌&&◌, cond, eqb, nat_le, Option, None, Some, List, [], ◌∷◌}
use Rattle.std.specs.Str.{byte}
use Rattle.resp_value.specs.declared.double_stage.DoubleStage.{DoubleStage}
use Rattle.resp_value.specs.declared.double_stage.DoubleStage.TheVariants.{Begun, Plus, Minus, Whole, Point, Fraction, Mark, MarkSign, Exponent, I, In, N, Na, Named}

-- whether the byte is a digit
abbrev pub is_digit : ℕ → Bool
is_digit b = nat_le (byte "0") b && nat_le b (byte "9")

-- this stage after this byte alone
abbrev pub only : ℕ → DoubleStage → ℕ → Option DoubleStage
only x stage b = cond (eqb b x) (Some stage) None

-- the first letter of a name
abbrev pub after_name : ℕ → Option DoubleStage
after_name b = cond (eqb b (byte "i")) (Some I) (only (byte "n") N b)

-- the letter of an exponent
abbrev pub after_number : ℕ → Option DoubleStage
after_number b = cond (eqb b (byte "e")) (Some Mark) (only (byte "E") Mark b)

-- the stage after a digit, and after any other byte
abbrev pub digit_or : DoubleStage → Option DoubleStage → ℕ → Option DoubleStage
digit_or stage other b = cond (is_digit b) (Some stage) other

-- the stage after one more byte, if a double may have it there
abbrev pub stage_after : DoubleStage → ℕ → Option DoubleStage
stage_after Begun b = digit_or Whole (cond (eqb b (byte "+")) (Some Plus) (cond (eqb b (byte "-")) (Some Minus) (after_name b))) b
stage_after Plus b = digit_or Whole None b
stage_after Minus b = digit_or Whole (after_name b) b
stage_after Whole b = digit_or Whole (cond (eqb b (byte ".")) (Some Point) (after_number b)) b
stage_after Point b = digit_or Fraction None b
stage_after Fraction b = digit_or Fraction (after_number b) b
stage_after Mark b = digit_or Exponent (cond (eqb b (byte "+")) (Some MarkSign) (only (byte "-") MarkSign b)) b
stage_after MarkSign b = digit_or Exponent None b
stage_after Exponent b = digit_or Exponent None b
stage_after I b = only (byte "n") In b
stage_after In b = only (byte "f") Named b
stage_after N b = only (byte "a") Na b
stage_after Na b = only (byte "n") Named b
stage_after Named b = None

-- the least number of bytes that complete a double: none where it may end
abbrev pub stage_needs : DoubleStage → ℕ
stage_needs Whole = 0
stage_needs Fraction = 0
stage_needs Exponent = 0
stage_needs Named = 0
stage_needs I = 2
stage_needs N = 2
stage_needs _ = 1

-- goes on if there is a stage
abbrev pub and_then : Option DoubleStage → (DoubleStage → Option DoubleStage) → Option DoubleStage
and_then None next = None
and_then (Some stage) next = next stage

-- the stage after more bytes, if a double may have them there
abbrev pub stage_after_all : DoubleStage → List ℕ → Option DoubleStage
stage_after_all stage [] = Some stage
stage_after_all stage (b ∷ bs) = and_then (stage_after stage b) (λ next. stage_after_all next bs)

-- whether a double may end at this stage
abbrev pub may_end : Option DoubleStage → Bool
may_end None = false
may_end (Some stage) = eqb (stage_needs stage) 0

-- whether these bytes complete a double
abbrev pub completes : DoubleStage → List ℕ → Bool
completes stage bytes = may_end (stage_after_all stage bytes)
