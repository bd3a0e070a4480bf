-- The words of a command that are keys.
use Rattle.std.specs.Prelude.{◌≡◌, ℕ, ◌+◌, ◌-◌, ◌%◌, ◌<◌, ◌==◌, nat_lt, Bool, false, ◌&&◌, ◌||◌, if◌then◌else◌, List, [], ◌∷◌, length, slice_index_or}
use Rattle.std.specs.Bool.{Decides}
use Rattle.resp_commands.specs.declared.command.Keys.{Keys}
use Rattle.resp_commands.specs.declared.keys.KeyPlaces.{KeyPlaces}
use Rattle.resp_commands.specs.declared.keys.Places.{Places}
use Rattle.resp_commands.specs.Keys.{IsKey}

-- whether this is one of places at equal distances
abbrev pub is_among : Places → ℕ → Bool
is_among places place =
    nat_lt places.after place && nat_lt place (places.last + 1) && nat_lt 0 places.step &&
    (place - (places.after + 1)) % places.step == 0

abbrev pub is_among_any : KeyPlaces → ℕ → Bool
is_among_any places place = is_among places.fixed place || (is_among places.further place || is_among places.other place)

-- of words that come after this place, those at the places
abbrev pub keys_after : KeyPlaces → ℕ → List (List ℕ) → List (List ℕ)
keys_after places place [] = []
keys_after places place (word ∷ words) =
    if is_among_any places (place + 1) then word ∷ keys_after places (place + 1) words else keys_after places (place + 1) words

-- the words that are marked
abbrev pub marked : List Bool → List (List ℕ) → List (List ℕ)
marked [] words = []
marked (mark ∷ marks) [] = []
marked (mark ∷ marks) (word ∷ words) = if mark then word ∷ marked marks words else marked marks words

-- these are the words after the name that are keys, and no others, in order
pub record AreKeyWords (keys : Keys) (arguments found : List (List ℕ)) : Type 0 where
  pub marks : List Bool
  pub count : length marks ≡ length arguments
  pub each : (index : ℕ) → index < length arguments →
      Decides (slice_index_or marks index false) (IsKey keys arguments (index + 1))
  pub all : found ≡ marked marks arguments
