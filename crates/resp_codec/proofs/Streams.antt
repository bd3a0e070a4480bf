-- What a codec finds in an input that is there whole.
use Rattle.std.proofs.Common.{◌≡◌, inl, inr, ℕ, ◌<◌, List, [], ◌∷◌, length, Result, Ok, Err, refl, subst, arith}
use Rattle.resp_scan.specs.declared.event.Fault.{Fault}
use Rattle.resp_decode.specs.Decoding.{HasTaken, rules_of}
use Rattle.resp_decode.specs.declared.decoder.Decoder.{Decoder}
use Rattle.tokio_util.specs.Codec.Whole.{ReadsAll, whole_frame, last_frame, no_frame}
use Rattle.resp_codec.specs.Frames.{IsBegun, IsTruncated, RefusesBuffer}
use Rattle.resp_codec.specs.Next.{ItemReading, gives_by}
use Rattle.resp_codec.specs.Streams.{IsReadAs, IsRestRefused}
use Rattle.resp_codec.specs.declared.error.CodecError.{CodecError}

some_bytes : (part : List ℕ) → (part ≡ [] → ⊥) → 0 < length part
some_bytes [] begun = absurd (begun refl)
some_bytes (byte ∷ part) begun = omega arith

-- what is refused between two values
refused : (d after : Decoder) (input : List ℕ) (fault : Fault) (left : List ℕ) → HasTaken d [] → RefusesBuffer d input fault after left →
    IsRestRefused (rules_of d) input fault
refused d after input fault left taken w = inl (w.seen, w.beyond, w.begins, w.refused [] taken)

-- an input that ends inside its first value
truncated : (d : Decoder) (input : List ℕ) (fault : Fault) → HasTaken d [] → IsBegun d input → IsTruncated input fault → IsRestRefused (rules_of d) input fault
truncated d input fault taken b w = inr (record {
  names = w.names;
  place = w.place;
  begun = some_bytes input w.begun;
  viable = b.viable [] taken;
  no_value = b.no_value [] taken;
})

module _ {C T S : Type 0} (r : ItemReading C T S) where
  pub is_read : (c : C) (input : List ℕ) (items : List (Result T CodecError)) → HasTaken (r.decoder c) [] → ReadsAll (gives_by r) c input items →
      IsReadAs r.Is (rules_of (r.decoder c)) input items
  is_read _ _ _ taken (whole_frame c input (Ok item) t left items (x, is, ends, same) later) = (
    x,
    ends.used,
    left,
    is,
    ends.spelling [] taken,
    subst (λ z. IsReadAs r.Is z left items) same.rules (is_read t left items (ends.takes [] taken) later),
    ends.whole,
  )
  is_read _ _ _ taken (whole_frame c input (Err e) t left items (fault, is, w, same) later) =
      (fault, is, refused (r.decoder c) (r.decoder t) input fault left taken w)
  is_read _ _ _ taken (last_frame c input (Ok item) t left items none later) = absurd none
  is_read _ _ _ taken (last_frame c input (Err e) t left items (b, (fault, is, inside, all, same)) later) =
      (fault, is, truncated (r.decoder c) input fault taken b (inside [] taken))
  is_read _ _ _ taken (no_frame c input t left (b, between, all, same)) = between [] taken
