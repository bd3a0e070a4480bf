-- The place of the only command or subcommand that may have a name.
use Rattle.std.specs.Prelude.{ℕ, ◌+◌, ◌*◌, ◌/◌, ◌%◌, List, [], ◌∷◌, slice_index}
use Rattle.resp_commands.specs.declared.table.TheConstants.{FACTOR, INNER_PLACES, INNER_STEPS, PLACES, STEPS}

-- the hash of a name, begun with a number; letters have the same digit in upper and in lower case
abbrev pub hash_from : ℕ → List ℕ → ℕ
hash_from hash [] = hash
hash_from hash (byte ∷ bytes) = hash_from ((hash * FACTOR + byte % 32) % 65536) bytes

-- the place of a hash, by these steps and places
abbrev pub place_by : List ℕ → List ℕ → ℕ → ℕ
place_by steps places hash = slice_index places ((hash / 128 + slice_index steps (hash % 128)) % 512)

abbrev pub place_of : List ℕ → ℕ
place_of name = place_by STEPS PLACES (hash_from 0 name)

-- a subcommand of the command with this number
abbrev pub inner_place_of : ℕ → List ℕ → ℕ
inner_place_of container name = place_by INNER_STEPS INNER_PLACES (hash_from container name)
