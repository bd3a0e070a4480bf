-- The state of a line in memory.
use Rattle.std.specs.Prelude.{◌≡◌, ◌⊎◌, ◌-◌, ℕ, List, [], ◌∷◌, ◌++◌, length, drop, map, nat_lt, if◌then◌else◌, Option, None, Some}
use Rattle.resp_tap.specs.Lines.{LineState}
use Rattle.resp_tap.specs.declared.line.Due.{Due}
use Rattle.resp_tap.specs.declared.line.Line.{Line}
use Rattle.resp_tap.specs.declared.line.Pending.{Pending}

-- these commands wait
abbrev pub due_in : {A : Type 0} → List (Pending A) → List Due
due_in {A} = map (λ (p : Pending A). p.due)

-- this is kept of them, in the order of the commands
abbrev pub kept_in : {A : Type 0} → List (Pending A) → List A
kept_in {A} = map (λ (p : Pending A). p.kept)

abbrev pub line_of : {A : Type 0} → Line A → LineState
line_of l = record {
  version = l.version;
  due = due_in l.pending.items;
  heard = l.heard;
  subscriptions = l.subscriptions;
  is_open = l.is_open;
  is_lost = l.is_lost;
}

abbrev pub first_of : List Due → Option Due
first_of [] = None
first_of (first ∷ due) = Some first

-- no command was added, or one of which this is kept
abbrev pub MayAdd : {A : Type 0} → A → Line A → Line A → Type 0
MayAdd kept old new = (new.pending.items ≡ old.pending.items) ⊎
    ((due : Due) × (new.pending.items ≡ old.pending.items ++ record { due = due; kept = kept } ∷ []))

-- The first commands wait no more, and of the others the same is kept.
abbrev pub DropsFirst : {A : Type 0} → Line A → Line A → Type 0
DropsFirst old new = new.pending.items ≡ drop (length old.pending.items - length new.pending.items) old.pending.items

-- What is kept after a step, if so many commands waited before it and after it: that of a new command is added, and that
-- of commands that wait no more is removed.
abbrev pub kept_after : {A : Type 0} → A → ℕ → ℕ → List A → List A
kept_after new before after kept = if nat_lt before after then kept ++ new ∷ [] else drop (before - after) kept
