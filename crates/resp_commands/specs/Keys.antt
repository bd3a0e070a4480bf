-- The places of keys. The name of a command has place 0, and the words after it have the places from 1 on.
use Rattle.std.specs.Prelude.{◌⊎◌, ◌≡◌, ℕ, ◌+◌, ◌-◌, ◌/◌, ◌%◌, ◌<◌, ◌≤◌, min, if◌then◌else◌, List, ◌∷◌, drop, length, codes}
use Rattle.std.specs.List.{position_or_len}
use Rattle.std.specs.Str.{str_eq_ignore_ascii_case}
use Rattle.resp_value.specs.Numbers.{IsNumber}
use Rattle.resp_commands.specs.declared.command.Keys.{Keys}
use Rattle.resp_commands.specs.declared.command.Search.{Search}
use Rattle.resp_commands.specs.declared.command.Search.TheVariants as search
use Rattle.resp_commands.specs.Migrates.{IsMigrateKey}
use Rattle.resp_commands.specs.Sorts.{IsSortedKey}
use Rattle.resp_commands.specs.declared.keys.KeyPlaces.{KeyPlaces}
use Rattle.resp_commands.specs.declared.keys.Places.{Places}

-- one of places at equal distances
pub record IsAmong (places : Places) (place : ℕ) : Type 0 where
  pub above : places.after < place
  pub within : place ≤ places.last
  pub some : 0 < places.step
  pub spaced : (place - (places.after + 1)) % places.step ≡ 0

-- one of the places that were found
abbrev pub IsAmongAny : KeyPlaces → ℕ → Type 0
IsAmongAny places place = IsAmong places.fixed place ⊎ IsAmong places.further place ⊎ IsAmong places.other place

-- the last place of keys at fixed places, in a command with this many words after its name
abbrev pub last_place : Keys → ℕ → ℕ
last_place keys count = if keys.from_end then count - (keys.last - 1) else min keys.last count

-- a key at a fixed place
pub record IsFixedKey (keys : Keys) (count place : ℕ) : Type 0 where
  pub has_keys : 0 < keys.first
  pub from : keys.first ≤ place
  pub to : place ≤ last_place keys count
  pub some : 0 < keys.step
  pub spaced : (place - keys.first) % keys.step ≡ 0

-- the number of words before the first such word
abbrev pub words_before : List ℕ → List (List ℕ) → ℕ
words_before keyword words = position_or_len (λ word. str_eq_ignore_ascii_case word keyword) words

-- the place of the first such word from a place on, or a place past the words
abbrev pub keyword_place : List ℕ → ℕ → List (List ℕ) → ℕ
keyword_place keyword start arguments = start - 1 + words_before keyword (drop (start - 1) arguments) + 1

-- a key among the first half of the words after STREAMS
pub record IsStreamKey (start : ℕ) (arguments : List (List ℕ)) (place : ℕ) : Type 0 where
  pub after : keyword_place (codes "streams") start arguments < place
  pub first_half : place ≤ keyword_place (codes "streams") start arguments +
      (length arguments - keyword_place (codes "streams") start arguments) / 2

-- the key after a word as STORE
pub record IsStoreKey (keyword : List ℕ) (start : ℕ) (arguments : List (List ℕ)) (place : ℕ) : Type 0 where
  pub next : place ≡ keyword_place keyword start arguments + 1
  pub within : place ≤ length arguments

-- the word at this place is the number of the words after it that are keys, and there are so many
pub record HasCount (start : ℕ) (arguments : List (List ℕ)) (count : ℕ) : Type 0 where
  pub word : List ℕ
  pub rest : List (List ℕ)
  pub there : drop (start - 1) arguments ≡ word ∷ rest
  pub counted : IsNumber count word
  pub enough : count ≤ length rest

-- one of the keys after their number
pub record IsCountedKey (start : ℕ) (arguments : List (List ℕ)) (place : ℕ) : Type 0 where
  pub count : ℕ
  pub has : HasCount start arguments count
  pub after : start - 1 + 1 < place
  pub within : place ≤ start - 1 + 1 + count

-- a key whose place depends on the words
abbrev pub IsFurtherKey : Search → ℕ → List (List ℕ) → ℕ → Type 0
IsFurtherKey search.Counted start arguments place = IsCountedKey start arguments place
IsFurtherKey search.Streams start arguments place = IsStreamKey start arguments place
IsFurtherKey search.Stores start arguments place =
    IsStoreKey (codes "store") start arguments place ⊎ IsStoreKey (codes "storedist") start arguments place
IsFurtherKey search.Sort start arguments place = IsSortedKey start arguments place
IsFurtherKey search.Migrate start arguments place = IsMigrateKey start arguments place
IsFurtherKey _ start arguments place = ⊥

-- the word at this place is a key
abbrev pub IsKey : Keys → List (List ℕ) → ℕ → Type 0
IsKey keys arguments place =
    IsFixedKey keys (length arguments) place ⊎ IsFurtherKey keys.search keys.start arguments place

-- these are the places of the keys, and no others
abbrev pub AreKeys : Keys → List (List ℕ) → KeyPlaces → Type 0
AreKeys keys arguments places = (place : ℕ) →
    (IsAmongAny places place → IsKey keys arguments place) × (IsKey keys arguments place → IsAmongAny places place)

-- the words have no number of keys
abbrev pub TellsNoKeys : Keys → List (List ℕ) → Type 0
TellsNoKeys keys arguments = (keys.search ≡ search.Counted) × ((count : ℕ) → HasCount keys.start arguments count → ⊥)
