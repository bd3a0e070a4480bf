-- The internal contracts of the steps of sending and feeding.
use Rattle.std.specs.Prelude.{◌≡◌, ◌≢◌, ℕ, true, false, None, List, [], ◌∷◌, ◌++◌}
use Rattle.resp_value.specs.Data.{Datum}
use Rattle.resp_value.specs.Values.{datum_of}
use Rattle.resp_value.specs.declared.value.Value.TheVariants as value
use Rattle.resp_value.specs.declared.cause.Cause.TheVariants as cause
use Rattle.resp_encode.specs.declared.error.EncodeError.{EncodeError}
use Rattle.resp_encode.specs.declared.error.EncodeError.TheVariants as encode
use Rattle.resp_scan.specs.declared.event.Fault.{Fault}
use Rattle.resp_decode.specs.Decoding.{rules_of}
use Rattle.resp_decode.specs.Decoding as decode
use Rattle.resp_session.specs.Heard.{is_push}
use Rattle.resp_session.specs.Reading.{IsUnasked, ReadsAs, reading_rules, waiting_after}
use Rattle.resp_client.specs.Clients.{ClientState, next_number, state_of, with_answer}
use Rattle.resp_client.specs.Hearing.{HasTaken}
use Rattle.resp_client.specs.declared.client.Client.{Client}
use Rattle.resp_client.specs.declared.heard.What.{What}
use Rattle.resp_client.specs.declared.heard.What.TheVariants.{Reply, Push, Shown, More}
use Rattle.resp_client.specs.declared.send_error.SendError.{SendError}
use Rattle.resp_client.specs.declared.send_error.SendError.TheVariants.{TooLarge, OutOfMemory}

-- the client's error for an error of the encoder
abbrev pub send_error : EncodeError → SendError
send_error encode.OutOfMemory = OutOfMemory
send_error _ = TooLarge

-- the value that begins is read in the right version, and it was requested or is a push
pub record HasBegun (c : Client) (front piece : List ℕ) : Type 0 where
  pub taken : decode.HasTaken c.decoder front
  pub read_by : rules_of c.decoder ≡ reading_rules c.limits (state_of c).waiting
  pub asked : IsUnasked (state_of c).waiting (front ++ piece) → ⊥
  pub no_fault : c.fault ≡ None

-- the piece begins a value that no command requested and that is not a push
pub record IsUnaskedFault (s : ClientState) (front piece : List ℕ) (fault : Fault) : Type 0 where
  pub unasked : IsUnasked s.waiting (front ++ piece)
  pub cause : fault.cause ≡ cause.Unasked
  pub at : fault.at ≡ 0

-- the text is read as this value, and no byte of the next value was read
pub record TakesValue (old new : Client) (written : List ℕ) (x : Datum) : Type 0 where
  pub reads :
      ReadsAs (state_of old).limits (state_of old).waiting (x ∷ []) written (waiting_after (state_of old).waiting x)
  pub takes : HasTaken new []

-- the result for a value: a push itself, or a reply with the number of the first command that waits
abbrev pub Knows : ClientState → ClientState → Datum → What → Type 0
Knows s s' x (Reply number y) = (datum_of y ≡ x) × (is_push x ≡ false) ×
    (s.waiting.asks ≢ [] → (number ≡ next_number s) × (s' ≡ with_answer x s))
Knows s s' x (Push items) = (datum_of (value.Push items) ≡ x) × (is_push x ≡ true) × (s' ≡ s)
Knows s s' x Shown = ⊥
Knows s s' x More = ⊥

-- the decoder, the limits and the fault are the same
pub record SameReading (old new : Client) : Type 0 where
  pub decoder : new.decoder ≡ old.decoder
  pub limits : new.limits ≡ old.limits
  pub fault : new.fault ≡ old.fault
