-- The names under which commands are counted.
use Rattle.std.specs.Prelude.{ℕ, Bool, ◌&&◌, List, [], ◌∷◌, ◌++◌, map, take, nat_le, if◌then◌else◌, codes}
use Rattle.std.specs.Char.{to_ascii_uppercase}
use Rattle.std.specs.List.{list_any}
use Rattle.resp_session.specs.Operations.{is_name}

-- the byte that is printed for a byte of a name: `?` for a byte that is not printable
abbrev pub name_byte : ℕ → ℕ
name_byte byte = if nat_le 33 byte && nat_le byte 126 then to_ascii_uppercase byte else 63

-- the commands that have subcommands
abbrev pub containers : List (List ℕ)
containers = codes "acl" ∷ codes "client" ∷ codes "cluster" ∷ codes "command" ∷ codes "config" ∷ codes "debug" ∷
    codes "function" ∷ codes "latency" ∷ codes "memory" ∷ codes "module" ∷ codes "object" ∷ codes "pubsub" ∷
    codes "script" ∷ codes "sentinel" ∷ codes "slowlog" ∷ codes "xgroup" ∷ codes "xinfo" ∷ []

abbrev pub has_subcommands : List ℕ → Bool
has_subcommands word = list_any (λ name. is_name name word) containers

-- the printed name of a subcommand, after a space
abbrev pub subcommand_name : List (List ℕ) → List ℕ
subcommand_name [] = []
subcommand_name (word ∷ arguments) = 32 ∷ map name_byte word

-- the whole printed name of a command with these words
abbrev pub full_name : List (List ℕ) → List ℕ
full_name [] = []
full_name (name ∷ arguments) =
    map name_byte name ++ (if has_subcommands name then subcommand_name arguments else [])

-- the name of a command with these words in a table
abbrev pub table_name : List (List ℕ) → List ℕ
table_name words = take 20 (full_name words)
