-- Reading and writing of a codec of values.
use Rattle.std.specs.Prelude.{◌≡◌, ℕ, ◌<◌, List, length}
use Rattle.resp_value.specs.Bounds.{Bounds}
use Rattle.resp_value.specs.Canonical.{canonical_text}
use Rattle.resp_value.specs.Data.{Datum}
use Rattle.resp_value.specs.Rules.{Rules, rules_under}
use Rattle.resp_value.specs.Spellings.{IsSpelling}
use Rattle.resp_value.specs.Values.{datum_of}
use Rattle.resp_value.specs.declared.value.Value.{Value}
use Rattle.resp_value.specs.declared.version.Version.{Version}
use Rattle.resp_scan.specs.declared.event.Fault.{Fault}
use Rattle.resp_decode.specs.Decoding as decoding
use Rattle.resp_decode.specs.declared.decoder.Decoder.{Decoder}
use Rattle.resp_encode.specs.Refusals.{IsFirstFault}
use Rattle.resp_encode.specs.declared.error.EncodeError.{EncodeError}
use Rattle.resp_encode.specs.declared.error.EncodeError.TheVariants.{OutOfMemory}
use Rattle.tokio_util.specs.Codec.Next.{Gives}
use Rattle.resp_codec.specs.Next.{ItemReading, gives_by}
use Rattle.resp_codec.specs.declared.error.CodecError.{CodecError}
use Rattle.resp_codec.specs.declared.error.CodecError.TheVariants as error
use Rattle.resp_codec.specs.declared.value_codec.RespCodec.{RespCodec}

-- the version and the limits of reading and writing
abbrev pub rules_of : RespCodec → Rules
rules_of c = rules_under c.version c.limits

-- the bytes that it has read of a value are this front
abbrev pub HasTaken : RespCodec → List ℕ → Type 0
HasTaken c front = decoding.HasTaken c.decoder front

-- this holds of every front that it has read
abbrev pub WhereTaken : RespCodec → (List ℕ → Type 0) → Type 0
WhereTaken c P = decoding.WhereTaken c.decoder P

-- it returns this fault from now on
abbrev pub HasFault : RespCodec → Fault → Type 0
HasFault c fault = decoding.HasFault c.decoder fault

-- a version and limits
pub record Settings : Type 0 where
  pub version : Version
  pub limits : Bounds

-- how a codec reads with this decoder, keeping this version and these limits
abbrev pub reading_with : {C T : Type 0} → (C → Decoder) → (C → Version) → (C → Bounds) → (T → Datum → Type 0) →
    ItemReading C T Settings
reading_with decoder version limits holds = record {
  decoder = decoder;
  rest = λ c. record { version = version c; limits = limits c };
  Is = holds;
}

-- the value has this data
abbrev pub Holds : Value → Datum → Type 0
Holds value x = datum_of value ≡ x

-- it reads values as they are
abbrev pub reading_values : ItemReading RespCodec Value Settings
reading_values = reading_with (λ c. c.decoder) (λ c. c.version) (λ c. c.limits) Holds

-- its next item
abbrev pub gives_values : Gives RespCodec Value CodecError
gives_values = gives_by reading_values

-- the frame is the canonical text of the value, which is a spelling of it within the rules
pub record Writes (r : Rules) (value : Value) (frame : List ℕ) : Type 0 where
  pub text : frame ≡ canonical_text r.version (datum_of value)
  pub spelling : IsSpelling r (datum_of value) frame

-- writing the value fails with its first fault, or with out of memory if there is no room for its text
pub record RefusesToWrite (r : Rules) (value : Value) (spare : ℕ) (e : CodecError) : Type 0 where
  pub refusal : EncodeError
  pub names : e ≡ error.Refused refusal
  pub first_fault : IsFirstFault r (datum_of value) refusal
  pub memory : refusal ≡ OutOfMemory → spare < length (canonical_text r.version (datum_of value))

-- the bytes that it writes for a value
abbrev pub encodes_values : RespCodec → Value → List ℕ → RespCodec → Type 0
encodes_values c value frame t = Writes (rules_of c) value frame × (t ≡ c)

-- the values that it fails to write
abbrev pub refuses_values : RespCodec → Value → ℕ → CodecError → Type 0
refuses_values c value spare e = RefusesToWrite (rules_of c) value spare e
