-- The commands that a connection to the server begins with.
use Rattle.std.specs.Prelude.{ℕ, ◌+◌, List, [], ◌∷◌, ◌++◌, Option, None, Some, if◌then◌else◌, codes}
use Rattle.std.specs.Str.{bytes_eq}
use Rattle.resp_proxy.specs.Wishes.{Account, Situation}
use Rattle.resp_value.specs.Canonical.{canonical_text}
use Rattle.resp_value.specs.Words.{command_of}
use Rattle.resp_value.specs.declared.version.Version.{Version}
use Rattle.resp_value.specs.declared.version.Version.TheVariants.{Two, Three}

-- the text of the command of these words
abbrev pub command_text : List (List ℕ) → List ℕ
command_text words = canonical_text Two (command_of words)

-- AUTH with a user, if it is named, and a password
abbrev pub auth_by : Option (List ℕ) → List ℕ → List ℕ
auth_by None password = command_text (codes "AUTH" ∷ password ∷ [])
auth_by (Some user) password = command_text (codes "AUTH" ∷ user ∷ password ∷ [])

-- AUTH of an account
abbrev pub auth_text : Account → List ℕ
auth_text account = auth_by account.user account.password

-- AUTH of an account; without an account the command of the proxy's own user, if there is one
abbrev pub login_text : List ℕ → Option Account → List ℕ
login_text own None = own
login_text own (Some account) = auth_text account

-- HELLO with version 3; a connection begins in version 2
abbrev pub hello_text : Version → List ℕ
hello_text Two = []
hello_text Three = command_text (codes "HELLO" ∷ codes "3" ∷ [])

-- SELECT of a database; a connection begins in database 0
abbrev pub select_text : List ℕ → List ℕ
select_text word = if bytes_eq word (codes "0") then [] else command_text (codes "SELECT" ∷ word ∷ [])

-- the commands after which a new connection is in this situation
abbrev pub opening_text : List ℕ → Situation → List ℕ
opening_text own s = login_text own s.account ++ hello_text s.version ++ select_text s.database

-- the number of commands in a text of at most one command
abbrev pub commands_in : List ℕ → ℕ
commands_in [] = 0
commands_in (byte ∷ bytes) = 1

-- the number of commands in the opening text
abbrev pub opening_count : List ℕ → Situation → ℕ
opening_count own s =
    commands_in (login_text own s.account) + commands_in (hello_text s.version) + commands_in (select_text s.database)
