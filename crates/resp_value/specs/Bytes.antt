-- Bytes, and lines without CR and LF.
use Rattle.std.specs.Prelude.{◌≡◌, ℕ, ◌<◌, List, ◌++◌, length, codes}
use Rattle.std.specs.List.{AllByRecursion}
use Rattle.std.specs.Str.{byte}

-- a whole number from 0 to 255
abbrev pub IsByte : ℕ → Type 0
IsByte b = b < 256

-- a list of bytes
abbrev pub IsText : List ℕ → Type 0
IsText text = AllByRecursion IsByte text

-- neither CR nor LF
abbrev pub IsPlain : ℕ → Type 0
IsPlain b = (b ≡ byte "\r" → ⊥) × (b ≡ byte "\n" → ⊥)

-- no byte is CR or LF
abbrev pub IsLine : List ℕ → Type 0
IsLine text = AllByRecursion IsPlain text

-- at least one
abbrev pub IsFull : List ℕ → Type 0
IsFull text = 0 < length text

-- CR LF, followed by more bytes
abbrev pub crlf : List ℕ → List ℕ
crlf more = codes "\r\n" ++ more
