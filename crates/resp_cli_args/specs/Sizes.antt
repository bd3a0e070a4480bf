-- Sizes in words, such as `512M`.
use Rattle.std.specs.Prelude.{◌≤◌, ℕ, List, [], ◌∷◌, codes}
use Rattle.std.specs.List.{Contains}
use Rattle.resp_cli_args.specs.Units.{HasUnit}
use Rattle.resp_cli_args.specs.declared.sizes.Unit.{Unit}
use Rattle.resp_cli_args.specs.declared.sizes.Unit.TheVariants.{Byte, Kilo, KiloSmall, KiloBytes, KiloBytesSmall, Mega, MegaSmall, MegaBytes, MegaBytesSmall, Giga, GigaSmall, GigaBytes, GigaBytesSmall}

-- the letters of a unit
abbrev pub suffix_of : Unit → List ℕ
suffix_of Byte = []
suffix_of Kilo = codes "K"
suffix_of KiloSmall = codes "k"
suffix_of KiloBytes = codes "KB"
suffix_of KiloBytesSmall = codes "kb"
suffix_of Mega = codes "M"
suffix_of MegaSmall = codes "m"
suffix_of MegaBytes = codes "MB"
suffix_of MegaBytesSmall = codes "mb"
suffix_of Giga = codes "G"
suffix_of GigaSmall = codes "g"
suffix_of GigaBytes = codes "GB"
suffix_of GigaBytesSmall = codes "gb"

-- the number of bytes of a unit
abbrev pub factor_of : Unit → ℕ
factor_of Byte = 1
factor_of Kilo = 1024
factor_of KiloSmall = 1024
factor_of KiloBytes = 1024
factor_of KiloBytesSmall = 1024
factor_of Mega = 1048576
factor_of MegaSmall = 1048576
factor_of MegaBytes = 1048576
factor_of MegaBytesSmall = 1048576
factor_of Giga = 1073741824
factor_of GigaSmall = 1073741824
factor_of GigaBytes = 1073741824
factor_of GigaBytesSmall = 1073741824

-- the units
abbrev pub units : List Unit
units = Byte ∷ Kilo ∷ KiloSmall ∷ KiloBytes ∷ KiloBytesSmall ∷ Mega ∷ MegaSmall ∷ MegaBytes ∷ MegaBytesSmall ∷
    Giga ∷ GigaSmall ∷ GigaBytes ∷ GigaBytesSmall ∷ []

-- the text is a number in this unit, which is this many bytes
abbrev pub IsSizeIn : Unit → List ℕ → ℕ → Type 0
IsSizeIn unit = HasUnit (suffix_of unit) (factor_of unit)

-- the text is a size in one of the units, which is in this range
abbrev pub IsSize : List ℕ → ℕ → ℕ → ℕ → Type 0
IsSize text least most size =
    (unit : Unit) × Contains units unit × IsSizeIn unit text size × (least ≤ size) × (size ≤ most)
