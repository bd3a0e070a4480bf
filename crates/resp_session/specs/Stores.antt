-- The store, and the effect of a command on it.
use Rattle.std.specs.Prelude.{ℕ, ◌-◌, Bool, true, false, not, List, [], ◌∷◌, length, filter, Option, None, Some, if◌then◌else◌, unwrap_or, codes}
use Rattle.std.specs.List.{list_any}
use Rattle.std.specs.Map.{lookup}
use Rattle.std.specs.Str.{bytes_eq}
use Rattle.resp_value.specs.Data.{Datum}
use Rattle.resp_value.specs.declared.version.Version.{Version}
use Rattle.resp_session.specs.Operations.{Operation, Condition, Always, IfAbsent, IfPresent, Ping, Echo, Get, Set, Del, Hello, Refused, operation_of}
use Rattle.resp_session.specs.Replies.{simple_string, error, bulk_string, natural, null, bulk_string_or_null, hello_reply}

-- keys with their values, in the order in which the keys were added
abbrev pub Store : Type 0
Store = List (List ℕ × List ℕ)

-- the value of a key
abbrev pub value_at : Store → List ℕ → Option (List ℕ)
value_at store key = lookup (bytes_eq key) store

-- a key that exists keeps its place, and a new key goes last
abbrev pub store_with : Store → List ℕ → List ℕ → Store
store_with [] key value = (key, value) ∷ []
store_with (e ∷ es) key value = if bytes_eq key e.0 then (e.0, value) ∷ es else e ∷ store_with es key value

-- the entries whose keys are not among these
abbrev pub store_without : Store → List (List ℕ) → Store
store_without store keys = filter (λ e. not (list_any (bytes_eq e.0) keys)) store

-- whether a SET sets a key that has this value
abbrev pub is_met : Condition → Option (List ℕ) → Bool
is_met Always value = true
is_met IfAbsent None = true
is_met IfAbsent (Some value) = false
is_met IfPresent None = false
is_met IfPresent (Some value) = true

-- the state after a command, and the reply to it
pub record Effect : Type 0 where
  pub store : Store
  -- the session's version
  pub version : Version
  pub reply : Datum

-- the effect of a request in a session of this version and number
abbrev pub effect_of : Store → Version → ℕ → Operation → Effect
effect_of store version id Ping = record { store = store; version = version; reply = simple_string (codes "PONG") }
effect_of store version id (Echo word) = record { store = store; version = version; reply = bulk_string word }
effect_of store version id (Get key) =
    record { store = store; version = version; reply = bulk_string_or_null (value_at store key) }
effect_of store version id (Set condition key value) =
    if is_met condition (value_at store key) then
    record { store = store_with store key value; version = version; reply = simple_string (codes "OK") } else
    record { store = store; version = version; reply = null }
effect_of store version id (Del keys) =
    let left = store_without store keys in
    record { store = left; version = version; reply = natural (length store - length left) }
effect_of store version id (Hello asked) =
    let next = unwrap_or asked version in
    record { store = store; version = next; reply = hello_reply next id }
effect_of store version id (Refused text) = record { store = store; version = version; reply = error text }

-- the effect of the words of a command; without a word there is no command, and nothing happens
abbrev pub effect_of_words : Store → Version → ℕ → List (List ℕ) → Effect
effect_of_words store version id [] = record { store = store; version = version; reply = null }
effect_of_words store version id (name ∷ arguments) = effect_of store version id (operation_of name arguments)
