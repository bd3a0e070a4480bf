-- The items that are kept for the commands that wait, in the order of the commands.
use Rattle.std.specs.Prelude.{◌≡◌, ◌⊎◌, ℕ, Bool, true, List, [], ◌∷◌, ◌++◌, drop, Option, None, Some}
use Rattle.resp_tap.specs.Filters.{Chooses}
use Rattle.resp_tap.specs.declared.filter.Filter.{Filter}
use Rattle.resp_tap.specs.declared.seen.Seen.{Seen}
use Rattle.resp_tap.specs.declared.seen.Seen.TheVariants as seen

-- The item of a new command is added, unless memory is out. Without one, the first items are dropped, this many.
abbrev pub Follows : {A : Type 0} → Option A → ℕ → List A → List A → Type 0
Follows None gone old new = new ≡ drop gone old
Follows (Some item) gone old new = (new ≡ old) ⊎ (new ≡ old ++ item ∷ [])

-- the words of a result's command, if one more command waits after it
abbrev pub new_words : Bool → Seen → Option (List (List ℕ))
new_words true (seen.Command number words lengths) = Some words
new_words more what = None

-- the item is that of a new command with these words
abbrev pub IsNew : {A : Type 0} → (List (List ℕ) → A → Type 0) → Option (List (List ℕ)) → A → Type 0
IsNew IsOf None item = ⊥
IsNew IsOf (Some words) item = IsOf words item

-- The items after a result. If one more command waits, its item is added; or memory for it was out, or nothing is kept of
-- a command before it. Otherwise the items of the commands that wait no more, this many, are dropped.
abbrev pub KeptBy : {A : Type 0} → (List (List ℕ) → A → Type 0) → Option (List (List ℕ)) → ℕ → List A → List A → Type 0
KeptBy IsOf None gone old new = new ≡ drop gone old
KeptBy {A} IsOf (Some words) gone old new = (new ≡ old) ⊎ ((item : A) × IsOf words item × (new ≡ old ++ item ∷ []))

-- whether a result's command is let through by its words: those that were sent, or what is kept of them for the reply
abbrev pub IsChosenBy : Filter → Bool → Seen → Bool → Type 0
IsChosenBy f by_kept (seen.Command number words lengths) is_chosen = Chooses f words is_chosen
IsChosenBy f by_kept what is_chosen = is_chosen ≡ by_kept
