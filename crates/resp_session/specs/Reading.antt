-- How a client reads: the version in which it reads each value, and its state after each value.
use Rattle.std.specs.Prelude.{◌≡◌, ◌≢◌, ◌⊎◌, ℕ, Bool, true, false, List, [], ◌∷◌, ◌++◌, Option, None, Some, if◌then◌else◌}
use Rattle.resp_value.specs.Data.{Datum, scalar}
use Rattle.resp_value.specs.Data as d
use Rattle.resp_value.specs.Attributes.{without_attributes}
use Rattle.resp_value.specs.Bounds.{Bounds}
use Rattle.resp_value.specs.Rules.{Rules, Rule, WithinTotal, rules_under}
use Rattle.resp_value.specs.Spellings.{IsSpelling, IsViable, FaultOf}
use Rattle.resp_value.specs.Causes.{cause_of}
use Rattle.resp_value.specs.declared.version.Version.{Version}
use Rattle.resp_value.specs.declared.version.Version.TheVariants.{Two, Three}
use Rattle.resp_value.specs.declared.cause.Cause.{Cause}
use Rattle.resp_value.specs.declared.cause.Cause.TheVariants.{Unasked}
use Rattle.resp_session.specs.Answers.{BeginsNoValue}
use Rattle.resp_session.specs.Heard.{is_push}

-- a client's version, and for each command that waits the version that it requests, if it is a HELLO with a version
pub record Waiting : Type 0 where
  pub version : Version
  pub asks : List (Option Version)

-- the greater of two versions
abbrev pub greater_version : Version → Version → Version
greater_version Two version = version
greater_version Three version = Three

-- the version of a value that begins now: the client's version, or the version that the first waiting command requests
-- if that is greater
abbrev pub reading_version : Version → List (Option Version) → Version
reading_version version (Some asked ∷ asks) = greater_version version asked
reading_version version _ = version

-- the rules for reading a value that begins now
abbrev pub reading_rules : Bounds → Waiting → Rules
reading_rules limits w = rules_under (reading_version w.version w.asks) limits

-- whether a value is an error or a bulk error
abbrev pub is_error : Datum → Bool
is_error (scalar (d.Error s)) = true
is_error (scalar (d.BulkError s)) = true
is_error _ = false

-- whether a reply is an error, with or without attributes in front of it
abbrev pub is_refusal : Datum → Bool
is_refusal x = is_error (without_attributes x)

-- the client's version after the reply to a command that requested this version or none
abbrev pub version_after : Version → Option Version → Datum → Version
version_after version None x = version
version_after version (Some asked) x = if is_refusal x then version else asked

-- the state after a reply, which belongs to the first command that waits
abbrev pub waiting_after_reply : Version → List (Option Version) → Datum → Waiting
waiting_after_reply version [] x = record { version = version; asks = [] }
waiting_after_reply version (ask ∷ asks) x = record { version = version_after version ask x; asks = asks }

-- the state after a value; a push belongs to no command
abbrev pub waiting_after : Waiting → Datum → Waiting
waiting_after w x = if is_push x then w else waiting_after_reply w.version w.asks x

-- while no command waits, the value is a push
abbrev pub MayBeRead : Waiting → Datum → Type 0
MayBeRead w x = w.asks ≡ [] → is_push x ≡ true

-- the text consists of spellings of these values in order, each in the version in which it is read, and leads to this
-- state
abbrev pub ReadsAs : Bounds → Waiting → List Datum → List ℕ → Waiting → Type 0
ReadsAs limits w [] text after = (text ≡ []) × (after ≡ w)
ReadsAs limits w (x ∷ xs) text after = (front : List ℕ) × (rest : List ℕ) ×
    IsSpelling (reading_rules limits w) x front ×
    MayBeRead w x × ReadsAs limits (waiting_after w x) xs rest after × (text ≡ front ++ rest)

-- a rest whose first byte does not begin a push, while no command waits
abbrev pub IsUnasked : Waiting → List ℕ → Type 0
IsUnasked w rest = (w.asks ≡ []) × ((byte : ℕ) × (beyond : List ℕ) × (byte ≢ 62) × (rest ≡ byte ∷ beyond))

-- a rest that does not begin with a value and is viable
pub record MayGoOn (limits : Bounds) (w : Waiting) (rest : List ℕ) : Type 0 where
  pub asked : IsUnasked w rest → ⊥
  pub no_more : BeginsNoValue (reading_rules limits w) rest
  pub viable : IsViable (reading_rules limits w) WithinTotal rest

-- a rest that was requested, does not begin with a value, and stops being viable at this place with this cause
pub record IsBroken (limits : Bounds) (w : Waiting) (rest : List ℕ) (cause : Cause) (at : ℕ) : Type 0 where
  pub asked : IsUnasked w rest → ⊥
  pub no_more : BeginsNoValue (reading_rules limits w) rest
  pub rule : Rule
  pub fault : FaultOf (reading_rules limits w) rest rule at
  pub named : cause ≡ cause_of rule

-- the fault of a rest, with its place: a byte that was not requested, or else a fault of the grammar
abbrev pub ClientFault : Bounds → Waiting → List ℕ → Cause → ℕ → Type 0
ClientFault limits w rest cause at =
    (IsUnasked w rest × (cause ≡ Unasked) × (at ≡ 0)) ⊎ IsBroken limits w rest cause at
