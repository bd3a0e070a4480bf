-- The replies and pushes that a client receives, in terms of texts and values.
use Rattle.std.specs.Prelude.{◌≡◌, ◌⊎◌, ℕ, Some, List, [], ◌∷◌, ◌++◌, ◌+◌, ◌≤◌, length, take, Result, Ok, Err}
use Rattle.resp_value.specs.Data.{Datum}
use Rattle.resp_value.specs.Values.{datum_of}
use Rattle.resp_value.specs.declared.cause.Cause.TheVariants as cause
use Rattle.resp_value.specs.declared.value.Value.TheVariants as value
use Rattle.resp_value.specs.declared.value.Members.{Members}
use Rattle.resp_scan.specs.declared.event.Fault.{Fault}
use Rattle.resp_decode.specs.Decoding.{LacksMemory}
use Rattle.resp_session.specs.Heard.{numbered_replies}
use Rattle.resp_session.specs.Reading.{ClientFault, IsUnasked, MayGoOn, ReadsAs, reading_rules}
use Rattle.resp_client.specs.Clients.{ClientState, next_number, state_of, with_answer}
use Rattle.resp_client.specs.Standing.{TakesFront}
use Rattle.resp_client.specs.declared.client.Client.{Client}
use Rattle.resp_client.specs.declared.heard.Heard.{Heard}
use Rattle.resp_client.specs.declared.heard.What.{What}
use Rattle.resp_client.specs.declared.heard.What.TheVariants.{Reply, Push, Shown, More}

-- The bytes that a client has read of a value are this front, in the version in which the value is read. The definition
-- is opaque to callers: `new` establishes this relation, and each call keeps it until a fault.
abbrev pub HasTaken : Client → List ℕ → Type 0
HasTaken c front = TakesFront c.limits (state_of c).waiting c.decoder c.fault front

-- it has read some front
abbrev pub HasTakenSome : Client → Type 0
HasTakenSome c = ∥ ((front : List ℕ) × HasTaken c front) ∥₁

-- this holds of every front that the client has read
abbrev pub WhereTaken : Client → (List ℕ → Type 0) → Type 0
WhereTaken c P = (front : List ℕ) → HasTaken c front → P front

-- every call returns this fault
abbrev pub HasFault : Client → Fault → Type 0
HasFault c fault = c.fault ≡ Some fault

-- the bytes read of a value and the fault are unchanged
pub record KeepsReading (old new : Client) : Type 0 where
  pub same_front : (front : List ℕ) → HasTaken old front → HasTaken new front
  pub same_fault : (fault : Fault) → HasFault old fault → HasFault new fault

-- the text is read as the reply to the first command that waits
pub record GivesReply (old new : Client) (written : List ℕ) (number : ℕ) (x : Datum) : Type 0 where
  pub reads : ReadsAs (state_of old).limits (state_of old).waiting (x ∷ []) written (state_of new).waiting
  pub numbered : numbered_replies (next_number (state_of old)) (x ∷ []) ≡ (number, x) ∷ []
  pub answered : state_of new ≡ with_answer x (state_of old)
  pub takes : HasTaken new []

-- the text is read as a push, which belongs to no command
pub record GivesPush (old new : Client) (written : List ℕ) (x : Datum) : Type 0 where
  pub reads : ReadsAs (state_of old).limits (state_of old).waiting (x ∷ []) written (state_of old).waiting
  pub takes : HasTaken new []

-- the piece is used up: no value has ended, the text is viable, and it was read
pub record TakesPiece (old new : Client) (written piece : List ℕ) (used : ℕ) : Type 0 where
  pub whole_piece : used ≡ length piece
  pub may_go_on : MayGoOn (state_of old).limits (state_of old).waiting written
  pub takes : HasTaken new written

-- the result of a piece of which this many bytes were used
abbrev pub Hears : Client → Client → List ℕ → List ℕ → ℕ → What → Type 0
Hears old new front piece used (Reply number x) =
    GivesReply old new (front ++ take used piece) number (datum_of x)
Hears old new front piece used (Push items) = GivesPush old new (front ++ take used piece) (datum_of (value.Push items))
Hears old new front piece used Shown = ⊥
Hears old new front piece used More = TakesPiece old new (front ++ piece) piece used

-- the same with a sink, which has stored these pushes before and after
abbrev pub HearsAndShows : Client → Client → List Members → List Members → List ℕ → List ℕ → ℕ → What → Type 0
HearsAndShows old new before after front piece used (Reply number x) =
    (after ≡ before) × GivesReply old new (front ++ take used piece) number (datum_of x)
HearsAndShows old new before after front piece used (Push items) = ⊥
HearsAndShows old new before after front piece used Shown =
    (items : Members) × (after ≡ before ++ items ∷ []) ×
    GivesPush old new (front ++ take used piece) (datum_of (value.Push items))
HearsAndShows old new before after front piece used More =
    (after ≡ before) × TakesPiece old new (front ++ piece) piece used

-- unless this is a reply
abbrev pub UnlessReplied : What → Type 0 → Type 0
UnlessReplied (Reply number x) P = Unit {0}
UnlessReplied (Push items) P = P
UnlessReplied Shown P = P
UnlessReplied More P = P

-- unless there was a reply
abbrev pub UnlessReply : Result Heard Fault → Type 0 → Type 0
UnlessReply (Ok heard) P = UnlessReplied heard.what P
UnlessReply (Err fault) P = P

-- the fault of the bytes received, or `OutOfMemory` after viable bytes of a value that was requested
abbrev pub Refuses : ClientState → List ℕ → List ℕ → Fault → Type 0
Refuses s front piece fault = ClientFault s.limits s.waiting (front ++ piece) fault.cause fault.at ⊎
    ((IsUnasked s.waiting (front ++ piece) → ⊥) × LacksMemory (reading_rules s.limits s.waiting) front piece fault)

-- the sink's allocation failed for the push that ends after this many bytes of the piece
pub record LosesPush (s : ClientState) (front piece : List ℕ) (fault : Fault) : Type 0 where
  pub names : fault.cause ≡ cause.OutOfMemory
  pub used : ℕ
  pub within : used ≤ length piece
  pub place : fault.at ≡ length front + used
  pub items : Members
  pub reads : ReadsAs s.limits s.waiting (datum_of (value.Push items) ∷ []) (front ++ take used piece) s.waiting

-- the same with a sink
abbrev pub RefusesOrLoses : ClientState → List ℕ → List ℕ → Fault → Type 0
RefusesOrLoses s front piece fault = Refuses s front piece fault ⊎ LosesPush s front piece fault
