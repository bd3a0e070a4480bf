-- What a framed reader has given where it has ended.
use Rattle.std.proofs.Common.{List, [], ◌++◌, Result, ap, subst}
use Rattle.std.specs.declared.io.Error.{Error}
use Rattle.resp_decode.specs.Decoding.{HasTaken, rules_of}
use Rattle.tokio.specs.Io.Moved.{Passes, PassesInOrder}
use Rattle.tokio_util.specs.Codec.Framed.{framed_read}
use Rattle.tokio_util.specs.Codec.Whole.{EndIsFinal, ReadsAll}
use Rattle.tokio_util.specs.declared.codec.framed_read.FramedRead.{FramedRead}
use Rattle.tokio_util.proofs.CodecLemmas.Whole.{all_frames}
use Rattle.resp_codec.specs.FramedReaders.{AreItsValues, GivesItems, HasNoByte, from_failure}
use Rattle.resp_codec.specs.Next.{ItemReading, gives_by}
use Rattle.resp_codec.specs.NextLaws.{stable}
use Rattle.resp_codec.specs.declared.error.CodecError.{CodecError}
use Rattle.resp_codec.proofs.Streams.{is_read}

pub gave_values : {S C T O : Type 0} (r : ItemReading C T O) (reads : Passes S) (is_at_end : S → Type 0) (fails : S → Error → Type 0) →
    PassesInOrder reads → EndIsFinal reads is_at_end → (framed : FramedRead S C) (items : List (Result T CodecError)) → HasNoByte framed →
    HasTaken (r.decoder framed.decoder) [] → GivesItems reads is_at_end fails (gives_by r) framed items →
    AreItsValues reads is_at_end r.Is (rules_of (r.decoder framed.decoder)) framed.inner items
gave_values r reads is_at_end fails in_order final framed items none taken gave =
    let all = all_frames reads is_at_end fails (gives_by r) from_failure in_order final (stable r) (framed_read framed) items none.reading
    gave.without_error gave.yielded in
    record {
      bytes = all.0;
      input = record { last = all.1; passed = all.2; at_end = all.3 };
      values = is_read r framed.decoder all.0 items taken
          (subst (λ buffer. ReadsAll (gives_by r) framed.decoder buffer items) (ap (λ zs. zs ++ all.0) none.none) all.4);
    }
