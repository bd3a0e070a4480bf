-- Reading and writing of a codec of commands.
use Rattle.std.specs.Prelude.{◌≡◌, ℕ, ◌<◌, List, length}
use Rattle.resp_value.specs.Data.{Datum}
use Rattle.resp_value.specs.Rules.{Rules, rules_under}
use Rattle.resp_value.specs.declared.value.Value.{Value}
use Rattle.resp_scan.specs.declared.event.Fault.{Fault}
use Rattle.resp_decode.specs.Decoding as decoding
use Rattle.resp_session.specs.Asked.{IfCommand, meaning_in}
use Rattle.resp_session.specs.Commands.{meaning_of}
use Rattle.resp_session.specs.declared.words.Requested.{Requested}
use Rattle.tokio_util.specs.Codec.Next.{Gives}
use Rattle.resp_codec.specs.Next.{ItemReading, gives_by}
use Rattle.resp_codec.specs.Values.{RefusesToWrite, Settings, Writes, reading_with}
use Rattle.resp_codec.specs.declared.command_codec.CommandCodec.{CommandCodec}
use Rattle.resp_codec.specs.declared.error.CodecError.{CodecError}

-- the version and the limits of reading
abbrev pub reads_by : CommandCodec → Rules
reads_by c = decoding.rules_of c.decoder

-- the version and the limits of writing
abbrev pub writes_by : CommandCodec → Rules
writes_by c = rules_under c.version c.limits

-- the bytes that it has read of a value are this front
abbrev pub HasTaken : CommandCodec → List ℕ → Type 0
HasTaken c front = decoding.HasTaken c.decoder front

-- it returns this fault from now on
abbrev pub HasFault : CommandCodec → Fault → Type 0
HasFault c fault = decoding.HasFault c.decoder fault

-- it continues to read as the other does, whatever that has read
pub record ReadsLike (old new : CommandCodec) : Type 0 where
  pub taken : (front : List ℕ) → HasTaken old front → HasTaken new front
  pub fault : (fault : Fault) → HasFault old fault → HasFault new fault
  pub rules : reads_by new ≡ reads_by old

-- the value makes this request, and a command has a name
abbrev pub Asks : Requested → Datum → Type 0
Asks asked x = (meaning_in asked ≡ meaning_of x) × IfCommand asked (λ words. 0 < length words)

-- it reads the requests of values
abbrev pub reading_commands : ItemReading CommandCodec Requested Settings
reading_commands = reading_with (λ c. c.decoder) (λ c. c.version) (λ c. c.limits) Asks

-- its next item
abbrev pub gives_commands : Gives CommandCodec Requested CodecError
gives_commands = gives_by reading_commands

-- the bytes that it writes for a reply
abbrev pub encodes_replies : CommandCodec → Value → List ℕ → CommandCodec → Type 0
encodes_replies c reply frame t = Writes (writes_by c) reply frame × (t ≡ c)

-- the replies that it fails to write
abbrev pub refuses_replies : CommandCodec → Value → ℕ → CodecError → Type 0
refuses_replies c reply spare e = RefusesToWrite (writes_by c) reply spare e
