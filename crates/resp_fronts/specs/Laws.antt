-- A front and what may follow it, under the rules up to a rule before total.
use Rattle.std.specs.Prelude.{◌≡◌, ◌↔◌, ℕ, ◌+◌, ◌<◌, ◌≤◌, None, Some, List, [], ◌∷◌, ◌++◌, length}
use Rattle.std.specs.Str.{byte}
use Rattle.resp_value.specs.Bounds.{AreBounds}
use Rattle.resp_value.specs.Trees.{Tree, Spells, text, IsTree}
use Rattle.resp_value.specs.Rules.{Rules, Rule, WithinItems, WithinTotal, rank}
use Rattle.resp_value.specs.LocalRules.{LeafKeeps, NodeKeeps}
use Rattle.resp_value.specs.Spellings.{IsViable, IsCause}
use Rattle.resp_fronts.specs.Frames.{Frame, text_around}
use Rattle.resp_fronts.specs.Events.{events, events_around, events_due, without_places}
use Rattle.resp_fronts.specs.FirstByteRefusals.{first_byte_refusal}
use Rattle.resp_fronts.specs.LeastCompletions.{HasLeast, Continues, IsLeast}
use Rattle.resp_fronts.specs.MayFollow.{MayFollow, CompletesValue, AreKept, AreOpen, CanAllEnd, frames_needed}

-- a front and anything that may follow it are together the text of a tree within the rules
abbrev pub WhatMayFollowContinues : Type 0
WhatMayFollowContinues = (r : Rules) (rule : Rule) (frames : List Frame) (begun rest : List ℕ) →
    rank rule < rank WithinTotal → AreKept (LeafKeeps r rule) (NodeKeeps r rule) frames →
    MayFollow (LeafKeeps r rule) (NodeKeeps r rule) frames begun rest → Continues r rule (text_around frames begun) rest

-- a continuation of a front may follow it, because no other tree begins with the front
abbrev pub WhatContinuesMayFollow : Type 0
WhatContinuesMayFollow = (r : Rules) (rule : Rule) (frames : List Frame) (begun rest : List ℕ) →
    rank rule < rank WithinTotal → AreOpen frames → Continues r rule (text_around frames begun) rest →
    MayFollow (LeafKeeps r rule) (NodeKeeps r rule) frames begun rest

-- the least completion of a front completes the unfinished value, and then the frames around it
abbrev pub LeastCompletionSplits : Type 0
LeastCompletionSplits = (r : Rules) (rule : Rule) (frames : List Frame) (first : ℕ) (begun : List ℕ) (n : ℕ) →
    rank rule < rank WithinTotal → CanAllEnd (LeafKeeps r rule) (NodeKeeps r rule) frames → (first ≡ byte "." → ⊥) →
    0 < n → HasLeast (CompletesValue (LeafKeeps r rule) (NodeKeeps r rule) (length frames) (first ∷ begun)) n →
    HasLeast (Continues r rule (text_around frames (first ∷ begun))) (n + frames_needed frames)

-- a front is viable under all rules exactly if the front and its least completion are within total
abbrev pub ViableWhereLeastFits : Type 0
ViableWhereLeastFits = (r : Rules) (front : List ℕ) (n : ℕ) → IsLeast r front n →
    IsViable r WithinTotal front ↔ (length front + n ≤ r.limits.total)

-- a first byte has the cause that `first_byte_refusal` names, and is viable if it names no cause
abbrev pub AFirstByteHasItsCause : Type 0
AFirstByteHasItsCause = (r : Rules) (first : ℕ) → AreBounds r.limits →
    ((rule : Rule) → first_byte_refusal r 0 first ≡ Some rule → IsCause r (first ∷ []) rule) ×
    (first_byte_refusal r 0 first ≡ None → IsViable r WithinItems (first ∷ []))

-- a tree that begins with the front has a value at the end of the frames, and while this value is unfinished the events
-- of the front are the events of the frames and the events of this value so far
abbrev pub EventsDueSplit : Type 0
EventsDueSplit = (frames : List Frame) (begun rest : List ℕ) (whole : Tree) → AreOpen frames →
    ((beyond : List ℕ) → begun ++ rest ≡ byte "." ∷ beyond → ⊥) → Spells whole (text_around frames begun ++ rest) →
    (value : Tree) × (beyond : List ℕ) × IsTree value × (text value ++ beyond ≡ begun ++ rest) ×
    (length begun < length (text value) → events_due (length (text_around frames begun)) (events 0 whole) ≡
    without_places (events_around frames) ++ events_due (length (text_around frames begun))
    (events (length (text_around frames [])) value))
