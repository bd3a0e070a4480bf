-- A codec that reads with a decoder keeps the laws of `Decoder`.
use Rattle.std.proofs.Common.{Some, None, Ok, Err}
use Rattle.tokio_util.specs.Codec.Next.{IsStable, PartialHasNoFrame, EndIsPartial}
use Rattle.resp_codec.specs.FrameLaws.{not_both, refusal_before, value_before}
use Rattle.resp_codec.specs.Next.{ItemReading, gives_by}

module _ {C T S : Type 0} (r : ItemReading C T S) where
  pub stable : IsStable (gives_by r)
  stable c buffer (Ok item) t left more (x, is, v, same) =
      (x, is, value_before (r.decoder c) buffer x (r.decoder t) left more v, same)
  stable c buffer (Err e) t left more (fault, is, w, same) =
      (fault, is, refusal_before (r.decoder c) buffer fault (r.decoder t) left more w, same)

  pub partial_has_no_frame : PartialHasNoFrame (gives_by r)
  partial_has_no_frame c buffer item t left begun (x, is, v, same) =
      not_both (r.decoder c) buffer x (r.decoder t) left begun v

  pub end_is_partial : EndIsPartial (gives_by r)
  end_is_partial c buffer (Ok (Some item)) t left h = absurd h
  end_is_partial c buffer (Ok None) t left h = h.0
  end_is_partial c buffer (Err e) t left h = h.0
