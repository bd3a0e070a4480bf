-- Versions, as C passes them.
use Rattle.std.specs.Prelude.{◌≡◌, ◌⊎◌, ℕ, cond, eqb}
use Rattle.resp_value.specs.declared.version.Version.{Version}
use Rattle.resp_value.specs.declared.version.Version.TheVariants as version

-- a number that names a version
abbrev pub IsVersion : ℕ → Type 0
IsVersion n = (n ≡ 2) ⊎ (n ≡ 3)

-- the version that it names
abbrev pub version_of : ℕ → Version
version_of n = cond (eqb n 2) version.Two version.Three
