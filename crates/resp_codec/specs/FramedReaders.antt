-- The items of a framed reader that has ended.
use Rattle.std.specs.Prelude.{◌≡◌, ℕ, List, [], Result, None, All, IsOk}
use Rattle.std.specs.declared.io.Error.{Error}
use Rattle.resp_value.specs.Data.{Datum}
use Rattle.resp_value.specs.Rules.{Rules}
use Rattle.tokio.specs.Io.Moved.{Passes}
use Rattle.tokio.specs.Io.Steps.{Yields}
use Rattle.tokio_util.specs.Codec.Framed.{PollsFrame, framed_read}
use Rattle.tokio_util.specs.Codec.Framing.{IsReading, unframed}
use Rattle.tokio_util.specs.Codec.Next.{Gives}
use Rattle.tokio_util.specs.declared.codec.framed_read.FramedRead.{FramedRead}
use Rattle.resp_codec.specs.Streams.{IsReadAs}
use Rattle.resp_codec.specs.declared.error.CodecError.{CodecError}
use Rattle.resp_codec.specs.declared.error.CodecError.TheVariants as error

-- these are all bytes that a reader returns from here on
pub record IsRestOfInput {S : Type 0} (reads : Passes S) (is_at_end : S → Type 0) (io : S) (bytes : List ℕ) :
    Type 0 where
  pub last : S
  pub passed : reads io bytes last
  pub at_end : is_at_end last

-- the error of a reader that failed
abbrev pub from_failure : Error → CodecError → Type 0
from_failure failure e = e ≡ error.Io failure

-- a framed reader has begun, and holds no byte
pub record HasNoByte {S C : Type 0} (framed : FramedRead S C) : Type 0 where
  pub reading : IsReading (framed_read framed).frame
  pub none : unframed (framed_read framed).frame ≡ []

-- it returns these items, each without an error, and then ends
pub record GivesItems {S C T : Type 0} (reads : Passes S) (is_at_end : S → Type 0) (fails : S → Error → Type 0)
    (gives : Gives C T CodecError) (framed : FramedRead S C) (items : List (Result T CodecError)) : Type 0 where
  pub yielded : Yields (PollsFrame reads is_at_end fails gives from_failure) (framed_read framed) items None
  pub without_error : All IsOk items

-- the items represent the values encoded in the rest of the input, in order
pub record AreItsValues {S T : Type 0} (reads : Passes S) (is_at_end : S → Type 0) (Is : T → Datum → Type 0) (r : Rules)
    (io : S) (items : List (Result T CodecError)) : Type 0 where
  pub bytes : List ℕ
  pub input : IsRestOfInput reads is_at_end io bytes
  pub values : IsReadAs Is r bytes items
