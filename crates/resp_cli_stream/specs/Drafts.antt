-- The canonical text of a value that is being read, from the value that its events have built.
use Rattle.std.specs.Prelude.{◌≡◌, ◌⊎◌, ℕ, ◌+◌, Bool, true, Option, None, Some, List, [], ◌∷◌, ◌++◌, flat_map}
use Rattle.std.specs.Prelude.{drop, length, reverse, take}
use Rattle.resp_value.specs.Canonical.{canonical_text}
use Rattle.resp_value.specs.Data.{Kind, Datum, items_of}
use Rattle.resp_value.specs.Kinds.{kind_of}
use Rattle.resp_value.specs.declared.version.Version.{Version}
use Rattle.resp_encode.specs.Encodings.{head_text}
use Rattle.resp_value.specs.Rules.{Rules}
use Rattle.resp_scan.specs.Kinds.{rules_of, text_kind_of}
use Rattle.resp_scan.specs.Machine.Tokens.{Place}
use Rattle.resp_scan.specs.Reading.{Events}
use Rattle.resp_scan.specs.declared.event.TextKind.{TextKind}
use Rattle.resp_decode.specs.Builds.{Construction, Group, Text, built_from, with_events}
use Rattle.resp_decode.specs.Fits.{MayAllCome}
use Rattle.resp_cli_stream.specs.Scans.{HasScanned}
use Rattle.resp_cli_stream.specs.declared.draft.Draft.{Draft}
use Rattle.resp_cli_stream.specs.declared.draft.OpenAggregate.{OpenAggregate}

-- the head is appended if its number is known
abbrev pub AppendsKnownHead : Kind → Option ℕ → List ℕ → List ℕ → Type 0
AppendsKnownHead kind None before after = after ≡ before
AppendsKnownHead kind (Some number) before after = after ≡ before ++ head_text kind number

-- After the text before it, the text contains the head of an open aggregate, if its number is known, followed by the
-- texts of its complete members.
pub record StandsOpen (version : Version) (o : OpenAggregate) (g : Group) (outer text : List ℕ) : Type 0 where
  pub kind : kind_of o.kind ≡ g.kind
  pub members : o.members ≡ length g.members
  pub head : List ℕ
  pub head_at : o.head_at ≡ length outer
  pub members_at : o.members_at ≡ length outer + length head
  pub counted : (number : ℕ) → o.count ≡ Some number → head ≡ head_text g.kind number
  pub parts : text ≡ outer ++ (head ++ flat_map (canonical_text version) g.members)

-- the text of all open aggregates, the innermost first, after the text at the top
abbrev pub StandOpen : Version → List OpenAggregate → List Group → List ℕ → List ℕ → Type 0
StandOpen version [] [] top text = text ≡ top
StandOpen version [] (g ∷ gs) top text = ⊥
StandOpen version (o ∷ os) [] top text = ⊥
StandOpen version (o ∷ os) (g ∷ gs) top text =
    (outer : List ℕ) × StandsOpen version o g outer text × StandOpen version os gs top outer

-- the text of the complete value, if there is one
abbrev pub whole_text : Version → Option Datum → List ℕ
whole_text version None = []
whole_text version (Some x) = canonical_text version x

-- the kind and the content of the text that is being read, if there is one
abbrev pub IsRead : Option TextKind → List ℕ → Option Text → Type 0
IsRead None content None = content ≡ []
IsRead (Some kind) content (Some text) = (text_kind_of kind ≡ text.kind) × (content ≡ text.content)
IsRead _ content _ = ⊥

-- the draft has the text of what the events have built
pub record IsDraftOf (draft : Draft) (b : Construction) : Type 0 where
  pub opens : StandOpen draft.version (reverse draft.aggregates.items) b.groups (whole_text draft.version b.whole)
      draft.text.items
  pub read : IsRead draft.kind draft.content.items b.text

-- the draft has the text, in this version, of what these events build
abbrev pub HasDrafted : Version → Draft → Events → Type 0
HasDrafted version draft given = (draft.version ≡ version) × IsDraftOf draft (built_from given)

-- A scanner under these rules has read the beginning of a value, the draft has the text of its events, and nothing of
-- the value was written.
pub record HasBegunDraft (r : Rules) (s : Place) (draft : Draft) (front so_far : List ℕ) : Type 0 where
  pub given : Events
  pub scanned : HasScanned s front given
  pub drafted : HasDrafted r.version draft given
  pub same_rules : rules_of s ≡ r
  pub nothing : so_far ≡ []

-- if a call goes on, the text of its events is added
abbrev pub DraftsWhereFit : Draft → Draft → Events → Bool → Type 0
DraftsWhereFit old new more goes_on = (b : Construction) → MayAllCome more b → IsDraftOf old b → goes_on ≡ true →
    (new.version ≡ old.version) × IsDraftOf new (with_events more b)

-- the innermost aggregate has one more complete member
abbrev pub CountsOne : List OpenAggregate → List OpenAggregate → Type 0
CountsOne [] new = new ≡ []
CountsOne (o ∷ os) new = new ≡ record o { members = o.members + 1 } ∷ os

-- the number for the head of an aggregate that ends
abbrev pub number_of : OpenAggregate → ℕ
number_of o = items_of (kind_of o.kind) o.members

-- the text with that head: it is there already, or is inserted before the members
abbrev pub WithHead : OpenAggregate → List ℕ → List ℕ → Type 0
WithHead o text closed = ((o.count ≡ Some (number_of o)) × (closed ≡ text)) ⊎
    (closed ≡ take o.head_at text ++ (head_text (kind_of o.kind) (number_of o) ++ drop o.members_at text))
