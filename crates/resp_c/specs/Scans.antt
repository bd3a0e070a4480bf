-- The contract of a call that stores many events, in terms of texts and trees.
use Rattle.std.specs.Prelude.{◌≡◌, ◌⊎◌, ℕ, ◌+◌, List, [], ◌∷◌, ◌++◌, drop, flat_map, take, Some}
use Rattle.std.specs.List.{AllByRecursion}
use Rattle.resp_value.specs.Rules.{Keeps, Rules, WithinTotal}
use Rattle.resp_value.specs.Spellings.{IsViable}
use Rattle.resp_value.specs.Trees.{IsTree, Tree, text}
use Rattle.resp_fronts.specs.Events.{events, without_places}
use Rattle.resp_fronts.specs.Events as e
use Rattle.resp_scan.specs.declared.event.Event.{Event}
use Rattle.resp_scan.specs.declared.event.Event.TheVariants as event
use Rattle.resp_scan.specs.declared.event.TextKind.{TextKind}
use Rattle.resp_scan.specs.Kinds.{rules_of}
use Rattle.resp_scan.specs.Listening.{IsTextOf, whole_text_events}
use Rattle.resp_scan.specs.Machine.Tokens.{Place}
use Rattle.resp_scan.specs.Parts.{IsPartOf}
use Rattle.resp_scan.specs.Reading.{AreDue, Events, HasNoValue, HasRead, WhereRead, events_of}
use Rattle.resp_scan.specs.Slots.{IsTextOfPiece}
use Rattle.resp_c.specs.Told.{Tells, TellsWhole}
use Rattle.resp_c.specs.declared.event.RespEvent.{RespEvent}

-- The events that the entries of the array represent.

-- the events of an event, with the end of a value
abbrev pub all_events_of : Event → Events
all_events_of event.Done = e.Done ∷ []
all_events_of x = events_of x

-- an event other than a whole text; a part is a part of this piece
pub record StandsForEvent (piece : List ℕ) (out : RespEvent) (told : Events) : Type 0 where
  pub event : Event
  pub tells : Tells out (Some event)
  pub lent : IsPartOf piece out.used (Some event)
  pub stands_for : told ≡ all_events_of event

-- a whole text, of this piece
pub record StandsForText (piece : List ℕ) (out : RespEvent) (told : Events) : Type 0 where
  pub kind : TextKind
  pub bytes : List ℕ
  pub is_text : IsTextOf kind bytes
  pub tells : TellsWhole out kind bytes
  pub lent : IsTextOfPiece piece out.used bytes
  pub stands_for : told ≡ whole_text_events kind bytes

-- the bytes of events, one after another
abbrev pub used_by : List RespEvent → ℕ
used_by [] = 0
used_by (out ∷ outs) = out.used + used_by outs

-- The entries represent these events, one after another, each in the rest of the piece after the entry before it.
abbrev pub StandFor : List ℕ → List RespEvent → Events → Type 0
StandFor piece [] told = told ≡ []
StandFor piece (out ∷ outs) told = (first : Events) × (rest : Events) ×
    (StandsForEvent piece out first ⊎ StandsForText piece out first) ×
    StandFor (drop out.used piece) outs rest × (told ≡ first ++ rest)

-- The bytes that were read.

-- the events of trees, each with its end
abbrev pub events_of_trees : List Tree → Events
events_of_trees [] = []
events_of_trees (tree ∷ trees) = without_places (events 0 tree) ++ e.Done ∷ events_of_trees trees

-- a tree of the grammar that keeps the rules
abbrev pub IsTreeWithin : Rules → Tree → Type 0
IsTreeWithin r tree = IsTree tree × Keeps r WithinTotal tree

-- The text consists of the texts of trees within the rules and then a front. The events are those of the trees, each
-- with its end, and then those given of the front.
pub record ReadsTo (r : Rules) (written : List ℕ) (told : Events) (Ends : List ℕ → Events → Type 0) : Type 0 where
  pub trees : List Tree
  pub front : List ℕ
  pub given : Events
  pub keep : AllByRecursion (IsTreeWithin r) trees
  pub parts : written ≡ flat_map text trees ++ front
  pub told_of : told ≡ events_of_trees trees ++ given
  pub ends : Ends front given

-- the bytes of a value so far are viable, it has not ended, and all events of these bytes were given
pub record IsUsedUp (s : Place) (front : List ℕ) (given : Events) : Type 0 where
  pub viable : IsViable (rules_of s) WithinTotal front
  pub no_value : HasNoValue front
  pub all_due : AreDue front given
  pub reads : HasRead s front given

-- A scanner in this state has read this number of bytes of the piece, and these are their events.
pub record Scans (old : Place) (piece : List ℕ) (outs : List RespEvent) (used : ℕ) (Ends : List ℕ → Events → Type 0) :
    Type 0 where
  pub told : Events
  pub stand_for : StandFor piece outs told
  pub reads : WhereRead old (λ front given.
      ReadsTo (rules_of old) (front ++ take used piece) (given ++ told) Ends)
