-- The bytes that a scanner has read and the events that it has given since a value began: the heads of the open
-- aggregates, each with its complete members, and then the bytes of an unfinished part, within every rule except total.
use Rattle.std.specs.Prelude.{codes, ◌≡◌, ℕ, ◌+◌, ◌-◌, ◌<◌, List, [], ◌∷◌, ◌++◌, length}
use Rattle.resp_value.specs.Trees.{Tree, IsTree, close, text, count}
use Rattle.resp_value.specs.Rules.{Rules, WithinItems}
use Rattle.resp_value.specs.LocalRules.{LeafKeeps, NodeKeeps, HoldsFrom}
use Rattle.resp_fronts.specs.Frames as opened
use Rattle.resp_fronts.specs.Frames.{text_around}
use Rattle.resp_fronts.specs.MayFollow.{CanAllEnd, members_missing}
use Rattle.resp_fronts.specs.Events.{Event, events, events_around, without_places}
use Rattle.resp_fronts.specs.Events as e
use Rattle.resp_fronts.specs.OpenLevels as level
use Rattle.resp_value.specs.declared.kind.OpenKind.{OpenKind}
use Rattle.resp_scan.specs.declared.frame.Frame.{Frame}
use Rattle.resp_scan.specs.declared.frame.Shape.{Shape}
use Rattle.resp_scan.specs.declared.frame.Shape.TheVariants.{Left, Begun}
use Rattle.resp_scan.specs.Machine.Tokens.{Token, Place, Move, Go, Byte, Give, Refuse, AtStart, AtEnd, AtCloseCr, AtCloseLf}
use Rattle.resp_scan.specs.Machine.Sound.{IsSoundBy}
use Rattle.resp_value.specs.Kinds.{kind_of}
use Rattle.resp_scan.specs.Kinds.{event_of, rules_of, IsRefusedFor}
use Rattle.resp_scan.specs.Machine.Beginnings as b
use Rattle.resp_fronts.specs.OpenLevels.{AreLevelsOf, AreReady, Level, to_come, so_far}

-- Open aggregates.

-- an aggregate in which no member is open
abbrev pub waiting_shape : Shape → level.Shape
waiting_shape (Left n) = to_come n
waiting_shape (Begun n) = so_far n

-- an aggregate whose open member is already counted
abbrev pub busy_shape : Shape → level.Shape
busy_shape (Left n) = to_come (n + 1)
busy_shape (Begun n) = so_far (n - 1)

-- a member is open in each
abbrev pub busy_levels : List Frame → List Level
busy_levels [] = []
busy_levels (f ∷ fs) = record { kind = kind_of f.kind; shape = busy_shape f.shape } ∷ busy_levels fs

-- a member is open in each but the innermost
abbrev pub waiting_levels : List Frame → List Level
waiting_levels [] = []
waiting_levels (f ∷ fs) = record { kind = kind_of f.kind; shape = waiting_shape f.shape } ∷ busy_levels fs

-- at least one member has begun in a streamed aggregate whose member is open
abbrev pub HasBegunMember : Shape → Type 0
HasBegunMember (Left n) = Unit {0}
HasBegunMember (Begun n) = 0 < n

-- at least one member has begun in each that is streamed
abbrev pub HaveBegun : List Frame → Type 0
HaveBegun [] = Unit {0}
HaveBegun (f ∷ fs) = HasBegunMember f.shape × HaveBegun fs

-- at least one member has begun in each of the outer ones that is streamed
abbrev pub OuterBegun : List Frame → Type 0
OuterBegun [] = Unit {0}
OuterBegun (f ∷ fs) = HaveBegun fs

-- Places.

-- inside a value; T describes the unfinished bytes and the events given
pub record IsInside (r : Rules) (T : ℕ → List ℕ → List Event → Type 0) (fs : List Frame) (front : List ℕ)
    (es : List Event) : Type 0 where
  pub frames : List opened.Frame
  pub bytes : List ℕ
  pub shown : List Event
  pub begun : HaveBegun fs
  pub of_levels : AreLevelsOf (busy_levels fs) frames
  pub can_end : CanAllEnd (LeafKeeps r WithinItems) (NodeKeeps r WithinItems) frames
  pub took : T (length frames) bytes shown
  pub whole : front ≡ text_around frames bytes
  pub told : es ≡ without_places (events_around frames) ++ shown

-- before a member
pub record AwaitsMember (r : Rules) (fs : List Frame) (front : List ℕ) (es : List Event) : Type 0 where
  pub frames : List opened.Frame
  pub begun : OuterBegun fs
  pub of_levels : AreLevelsOf (waiting_levels fs) frames
  pub ready : AreReady (LeafKeeps r WithinItems) (NodeKeeps r WithinItems) frames
  pub whole : front ≡ text_around frames []
  pub told : es ≡ without_places (events_around frames)

-- a complete outermost value, whose end is due
pub record IsWholeValue (r : Rules) (front : List ℕ) (es : List Event) : Type 0 where
  pub tree : Tree
  pub is_tree : IsTree tree
  pub keep : HoldsFrom (LeafKeeps r WithinItems) (NodeKeeps r WithinItems) 0 tree
  pub whole : front ≡ text tree
  pub told : es ≡ without_places (events 0 tree)

-- an aggregate with all of its members; of its close these bytes were read and those are still to come; a counted
-- aggregate has no close
pub record IsBeingClosed (r : Rules) (k : OpenKind) (fs : List Frame) (last rest front : List ℕ) (es : List Event) :
    Type 0 where
  pub frame : opened.Frame
  pub outer : List opened.Frame
  pub begun : HaveBegun fs
  pub of_kind : kind_of k ≡ frame.kind
  pub has_all : members_missing frame.kind frame.form (count frame.done) ≡ 0
  pub closes : close frame.form ≡ last ++ rest
  pub of_levels : AreLevelsOf (busy_levels fs) outer
  pub ready : AreReady (LeafKeeps r WithinItems) (NodeKeeps r WithinItems) (frame ∷ outer)
  pub whole : front ≡ text_around (frame ∷ outer) last
  pub told : es ≡ without_places (events_around (frame ∷ outer))

-- the innermost aggregate closes
abbrev pub IsClosingIn : Rules → List Frame → List ℕ → List ℕ → List ℕ → List Event → Type 0
IsClosingIn r [] last rest front es = ⊥
IsClosingIn r (f ∷ fs) last rest front es = IsBeingClosed r f.kind fs last rest front es

-- a value has ended
abbrev pub HasEnded : Rules → List Frame → List ℕ → List Event → Type 0
HasEnded r [] front es = IsWholeValue r front es
HasEnded r (f ∷ fs) front es = IsBeingClosed r f.kind fs [] [] front es

-- the meaning of the bytes read and the events given, at a token
abbrev pub StandsAfterAt : Rules → Token → List Frame → List ℕ → List Event → Type 0
StandsAfterAt r AtStart fs front es = AwaitsMember r fs front es
StandsAfterAt r AtEnd fs front es = HasEnded r fs front es
StandsAfterAt r AtCloseCr fs front es = IsClosingIn r fs (codes ".") (codes "\r\n") front es
StandsAfterAt r AtCloseLf fs front es = IsClosingIn r fs (codes ".\r") (codes "\n") front es
StandsAfterAt r token fs front es = IsInside r (b.TokenHas r token) fs front es

-- the meaning of the bytes read and the events given, at a place
abbrev pub StandsAfter : Place → List ℕ → List Event → Type 0
StandsAfter s front es = StandsAfterAt (rules_of s) s.token s.frames front es

-- Bytes.

-- the numbers of a place are those of the front, of which this many bytes belong to the piece
pub record HasCountsOf (s : Place) (used : ℕ) (front : List ℕ) : Type 0 where
  pub sound : IsSoundBy used s
  pub taken : length front ≡ s.taken + used

-- the effect of one more byte
abbrev pub Leads : Place → List ℕ → List Event → ℕ → Move → Type 0
Leads s front es byte (Go t) = StandsAfter t (front ++ byte ∷ []) es
Leads s front es byte (Byte t) = StandsAfter t (front ++ byte ∷ []) (es ++ e.Byte byte ∷ [])
Leads s front es byte (Give happening t) = StandsAfter t (front ++ byte ∷ []) (es ++ event_of happening ∷ [])
Leads s front es byte (Refuse c) = IsRefusedFor (rules_of s) (front ++ byte ∷ []) c
