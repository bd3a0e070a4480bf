-- Which words of a command are secret, and the words that are printed in place of them.
use Rattle.std.specs.Prelude.{◌≡◌, ℕ, Bool, false, ◌+◌, ◌&&◌, ◌||◌, List, [], ◌∷◌, ◌++◌, length, nat_le, nat_lt, if◌then◌else◌, codes}
use Rattle.std.specs.List.{list_any}
use Rattle.resp_session.specs.Operations.{is_name}
use Rattle.resp_tap.specs.Kinds.{begins_with_name}
use Rattle.resp_tap.specs.declared.secrets.Secrets.{Secrets}
use Rattle.resp_tap.specs.declared.secrets.Secrets.TheVariants.{Absent, From, OfHello, OfMigrate, OfSettings}

-- the settings of CONFIG SET, SENTINEL SET and SENTINEL CONFIG SET that are secret, with other names that Valkey has
abbrev pub secret_settings : List (List ℕ)
secret_settings = codes "requirepass" ∷ codes "masterauth" ∷ codes "masteruser" ∷ codes "primaryauth" ∷
    codes "primaryuser" ∷ codes "tls-key-file-pass" ∷ codes "tls-client-key-file-pass" ∷ codes "auth-pass" ∷
    codes "auth-user" ∷ codes "sentinel-pass" ∷ codes "sentinel-user" ∷ []

-- the secret words of a command with this name and these arguments
abbrev pub secrets_of_call : List ℕ → List (List ℕ) → Secrets
secrets_of_call name arguments =
    if is_name (codes "auth") name then From 1 else
    if is_name (codes "hello") name then OfHello else
    if is_name (codes "migrate") name then OfMigrate else
    if is_name (codes "sentinel") name then OfSettings else
    if is_name (codes "acl") name && begins_with_name (codes "setuser") arguments then From 2 else
    if is_name (codes "config") name && begins_with_name (codes "set") arguments then OfSettings else
    Absent

-- the secret words of a command with these words, of which the first is its name
abbrev pub secrets_of : List (List ℕ) → Secrets
secrets_of [] = Absent
secrets_of (name ∷ arguments) = secrets_of_call name arguments

-- how many of the words that follow this word are secret because of it
abbrev pub secrets_after : Secrets → List ℕ → ℕ
secrets_after OfHello word = if is_name (codes "auth") word then 2 else 0
secrets_after OfMigrate word = if is_name (codes "auth") word then 1 else if is_name (codes "auth2") word then 2 else 0
secrets_after OfSettings word = if list_any (λ name. is_name name word) secret_settings then 1 else 0
secrets_after _ word = 0

-- whether the word that comes this many words after these words is secret because of one of them
abbrev pub are_followed_secretly : Secrets → List (List ℕ) → ℕ → Bool
are_followed_secretly secrets [] distance = false
are_followed_secretly secrets (word ∷ between) distance =
    nat_lt (length between + distance) (secrets_after secrets word) || are_followed_secretly secrets between distance

-- whether the next word after these words is secret
abbrev pub is_secret_after : Secrets → List (List ℕ) → Bool
is_secret_after (From index) before = nat_le index (length before)
is_secret_after secrets before = are_followed_secretly secrets before 0

-- a word as it is printed
abbrev pub shown_word : Bool → List ℕ → List ℕ
shown_word is_secret word = if is_secret then codes "(redacted)" else word

-- the words as they are printed, if these words come before them
abbrev pub redacted_after : Secrets → List (List ℕ) → List (List ℕ) → List (List ℕ)
redacted_after secrets before [] = []
redacted_after secrets before (word ∷ words) =
    shown_word (is_secret_after secrets before) word ∷ redacted_after secrets (before ++ word ∷ []) words

-- the words of a command as they are printed: each secret word is replaced
abbrev pub redacted : List (List ℕ) → List (List ℕ)
redacted words = redacted_after (secrets_of words) [] words

-- the words of a command as they are printed, if passwords are shown or not
abbrev pub printed_words : Bool → List (List ℕ) → List (List ℕ)
printed_words shows_passwords words = if shows_passwords then words else redacted words

-- This many words after these words are secret because of one of them.
abbrev pub AreLeft : Secrets → List (List ℕ) → ℕ → Type 0
AreLeft secrets before left = (distance : ℕ) → are_followed_secretly secrets before distance ≡ nat_lt distance left
