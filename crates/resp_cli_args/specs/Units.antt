-- Numbers with a unit in words, such as `10ms` and `512M`.
use Rattle.std.specs.Prelude.{◌≡◌, ◌<◌, ◌^◌, ◌*◌, ℕ, ◌++◌}
use Rattle.std.specs.Str.Parse.{IsNumeral, digits_value, without_leading_plus}
use Rattle.clap.specs.Words.{Text}

-- the text is a number with this unit of so many parts, which is this many parts, and they fit into 64 bits
abbrev pub HasUnit : Text → ℕ → Text → ℕ → Type 0
HasUnit unit scale text parts = (number : Text) × (text ≡ number ++ unit) × IsNumeral 10 (without_leading_plus number) ×
    (digits_value 10 (without_leading_plus number) * scale ≡ parts) × (parts < 2 ^ 64)
