-- The next item of a codec, which represents the values that its decoder reads.
use Rattle.std.specs.Prelude.{◌≡◌, Some, None, Ok, Err}
use Rattle.resp_value.specs.Data.{Datum}
use Rattle.resp_scan.specs.declared.event.Fault.{Fault}
use Rattle.resp_decode.specs.Decoding.{rules_of}
use Rattle.resp_decode.specs.declared.decoder.Decoder.{Decoder}
use Rattle.tokio_util.specs.Codec.Next.{Gives, decoded, partial, at_end}
use Rattle.resp_codec.specs.Frames.{EndsBetween, EndsInsideValue, ValueEnds, IsBegun, RefusesBuffer, TakesAll}
use Rattle.resp_codec.specs.declared.error.CodecError.{CodecError}
use Rattle.resp_codec.specs.declared.error.CodecError.TheVariants as error

-- how a codec C reads items T: with this decoder, while the rest of the codec is unchanged, and each item represents
-- these values
pub record ItemReading (C T S : Type 0) : Type 1 where
  pub decoder : C → Decoder
  pub rest : C → S
  pub Is : T → Datum → Type 0

-- the state that does not concern the current value is unchanged
pub record IsSame {C T S : Type 0} (r : ItemReading C T S) (c t : C) : Type 0 where
  pub rest : r.rest t ≡ r.rest c
  pub rules : rules_of (r.decoder t) ≡ rules_of (r.decoder c)

-- The next item: the item of the value that ends in the buffer; the error of a fault; and at the end of the input no
-- item between two values, and the error `Truncated` inside a value.
abbrev pub gives_by : {C T S : Type 0} → ItemReading C T S → Gives C T CodecError
gives_by r c buffer (decoded (Ok item) t left) =
    (x : Datum) × r.Is item x × ValueEnds (r.decoder c) buffer x (r.decoder t) left × IsSame r c t
gives_by r c buffer (decoded (Err e) t left) =
    (fault : Fault) × (e ≡ error.Fault fault) × RefusesBuffer (r.decoder c) buffer fault (r.decoder t) left ×
    IsSame r c t
gives_by r c buffer partial = IsBegun (r.decoder c) buffer
gives_by r c buffer (at_end (Ok (Some item)) t left) = ⊥
gives_by r c buffer (at_end (Ok None) t left) =
    IsBegun (r.decoder c) buffer × EndsBetween (r.decoder c) buffer × TakesAll (r.decoder c) buffer (r.decoder t) left ×
    IsSame r c t
gives_by r c buffer (at_end (Err e) t left) =
    IsBegun (r.decoder c) buffer ×
    ((fault : Fault) × (e ≡ error.Fault fault) × EndsInsideValue (r.decoder c) buffer fault ×
    TakesAll (r.decoder c) buffer (r.decoder t) left × IsSame r c t)
