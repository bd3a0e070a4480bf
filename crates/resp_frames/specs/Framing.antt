-- The bytes of a value that a connection has begun, and the value's end.
use Rattle.std.specs.Prelude.{◌≡◌, ℕ, ◌<◌, ◌≤◌, List, [], ◌++◌, length, take, MatchOption, Option, Result, IfErr, IfNone, IfOk, IfSome}
use Rattle.resp_value.specs.Bounds.{Bounds}
use Rattle.resp_value.specs.Rules.{Rules, rules_under}
use Rattle.resp_scan.specs.declared.event.Fault.{Fault}
use Rattle.resp_scan.specs.Kinds.{rules_of}
use Rattle.resp_scan.specs.Reading.{Events, HasNoValue, HasRead, IsRefused, IsSpelled}
use Rattle.resp_frames.specs.declared.begun.Begun.{Begun}
use Rattle.resp_frames.specs.declared.begun.BegunValue.{BegunValue}
use Rattle.resp_frames.specs.declared.error.FrameError.{FrameError}
use Rattle.resp_frames.specs.declared.error.FrameError.TheVariants as error
use Rattle.resp_frames.specs.declared.frame.Frame.{Frame}
use Rattle.resp_frames.specs.declared.frames.Frames.{Frames}
use Rattle.resp_frames.specs.Texts.{text_of, used_of}

-- the rules by which values are read
abbrev pub frame_rules : Frames → Rules
frame_rules f = rules_under f.version f.limits

-- the limits by which values are read
abbrev pub frame_limits : Frames → Bounds
frame_limits f = f.limits

-- these bytes are held, a scanner with these rules has read them, and no value has ended
pub record IsHeld (rules : Rules) (held : BegunValue) (front : List ℕ) : Type 0 where
  pub bytes : held.bytes.items ≡ front
  pub given : Events
  pub read : HasRead held.scanner.value front given
  pub same_rules : rules_of held.scanner.value ≡ rules
  pub no_value : HasNoValue front

-- a connection has begun a value with these bytes, or none
abbrev pub HasBegun : Rules → Begun → List ℕ → Type 0
HasBegun rules b front = MatchOption b.held (front ≡ []) (λ held. IsHeld rules held.value front)

-- the scanner of these frames is between two values: `new` makes it so, and each call of `next` leaves it so
pub record IsReady (f : Frames) : Type 0 where
  pub between : HasRead f.scanner.value [] []
  pub same_rules : rules_of f.scanner.value ≡ frame_rules f

-- this is true of all bytes of a value that a connection has begun
abbrev pub WhereBegun : Frames → Begun → (List ℕ → Type 0) → Type 0
WhereBegun f b P = IsReady f → (front : List ℕ) → HasBegun (frame_rules f) b front → P front

-- the frame is a spelling: these bytes and the first of the piece, at least one
pub record IsFrame (rules : Rules) (front piece : List ℕ) (frame : Frame) : Type 0 where
  pub text : text_of frame ≡ front ++ take (used_of frame) piece
  pub within : used_of frame ≤ length piece
  pub some : 0 < used_of frame
  pub spelled : IsSpelled rules (text_of frame)

-- a byte of the piece was rejected, with this fault
pub record RejectsByte (rules : Rules) (front piece : List ℕ) (fault : Fault) : Type 0 where
  pub given : Events
  pub refused : IsRefused rules front given piece fault

-- if a byte was rejected
abbrev pub OnFault : FrameError → (Fault → Type 0) → Type 0
OnFault (error.Fault fault) P = P fault
OnFault error.NotACommand P = Unit {0}
OnFault error.OutOfMemory P = Unit {0}

-- the result is a value that has ended: this is true of it, and the next value may begin
abbrev pub EndsValue : {A : Type 0} → Rules → Begun → (A → Type 0) → Result (Option A) FrameError → Type 0
EndsValue rules b P result = IfOk result (λ found. IfSome found (λ value. P value × HasBegun rules b []))

-- if no value is found, no value ends in these bytes, in any version and under any limits, and the bytes are begun
abbrev pub GoesOn : {A : Type 0} → Rules → Begun → List ℕ → Result (Option A) FrameError → Type 0
GoesOn rules b bytes result = IfOk result (λ found. IfNone found (HasNoValue bytes × HasBegun rules b bytes))

-- if a byte of the piece is rejected, it is the first that cannot follow the bytes before it
abbrev pub RejectsIn : {A : Type 0} → Rules → List ℕ → List ℕ → Result A FrameError → Type 0
RejectsIn rules front piece result = IfErr result (λ error. OnFault error (RejectsByte rules front piece))

-- no more bytes of the piece are used than it has
abbrev pub UsesWithin : {A : Type 0} → (A → ℕ) → List ℕ → Result (Option A) FrameError → Type 0
UsesWithin used piece result = IfOk result (λ found. IfSome found (λ value. used value ≤ length piece))

-- the value that is held ends after this many bytes of the piece, at least one, and all its bytes are held
pub record EndsWithin (rules : Rules) (held : BegunValue) (front piece : List ℕ) (used : ℕ) : Type 0 where
  pub bytes : held.bytes.items ≡ front ++ take used piece
  pub within : used ≤ length piece
  pub some : 0 < used
  pub spelled : IsSpelled rules (front ++ take used piece)
