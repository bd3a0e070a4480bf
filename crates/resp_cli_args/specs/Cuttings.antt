-- Where bytes are cut, in words.
use Rattle.std.specs.Prelude.{◌≡◌, ◌<◌, ◌≤◌, ◌^◌, ℕ, ◌++◌, codes}
use Rattle.std.specs.Str.Parse.{IsNumeral, digits_value, without_leading_plus}
use Rattle.clap.specs.Words.{Text}
use Rattle.resp_cli_args.specs.Units.{HasUnit}
use Rattle.resp_cli_args.specs.declared.cutting.Cutting.{Cutting}
use Rattle.resp_cli_args.specs.declared.cutting.Cutting.TheVariants.{Every, Random}

-- the text is a number after this prefix, which fits into 64 bits
abbrev pub HasSeed : Text → Text → ℕ → Type 0
HasSeed before text number = (seed : Text) × (text ≡ before ++ seed) × IsNumeral 10 (without_leading_plus seed) ×
    (digits_value 10 (without_leading_plus seed) ≡ number) × (number < 2 ^ 64)

-- the text is a number of bytes from 1 to 65,536, or `random:` and a seed
abbrev pub IsCutting : Text → Cutting → Type 0
IsCutting text (Every size) = HasUnit (codes "") 1 text size × (1 ≤ size) × (size ≤ 65536)
IsCutting text (Random seed) = HasSeed (codes "random:") text seed
