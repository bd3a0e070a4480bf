-- The names of commands in words, such as `JSON.GET,JSON.SET`.
use Rattle.std.specs.Prelude.{◌≡◌, ◌≢◌, ◌<◌, ◌≤◌, ℕ, All, List, Option, None, Some, length}
use Rattle.std.specs.List.{join_with_byte}

-- the byte may be part of a name: it is no space, no control character, no `,`, which stands between two names, and no
-- `|`, which joins a command to its subcommand
abbrev pub IsNameByte : ℕ → Type 0
IsNameByte byte = (32 < byte) × (byte ≢ 44) × (byte ≢ 124)

-- a name has from 1 to 64 bytes
abbrev pub IsName : List ℕ → Type 0
IsName name = (1 ≤ length name) × (length name ≤ 64) × All IsNameByte name

-- the text is one or more names, with a comma between two of them
abbrev pub AreNames : List ℕ → Type 0
AreNames text = (names : List (List ℕ)) × (1 ≤ length names) × All IsName names × (text ≡ join_with_byte 44 names)

-- the text is names of commands, or there is no text
abbrev pub AreNamesIfGiven : Option (List ℕ) → Type 0
AreNamesIfGiven None = Unit {0}
AreNamesIfGiven (Some text) = AreNames text
