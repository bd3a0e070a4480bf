-- The bytes of a frame.
use Rattle.std.specs.Prelude.{ℕ, List, length}
use Rattle.resp_frames.specs.declared.frame.Frame.{Frame}
use Rattle.resp_frames.specs.declared.frame.Frame.TheVariants.{InPiece, Held}

-- the bytes of the value
abbrev pub text_of : Frame → List ℕ
text_of (InPiece text) = text.now
text_of (Held used text) = text.items

-- the number of bytes of the piece that belong to the value
abbrev pub used_of : Frame → ℕ
used_of (InPiece text) = length text.now
used_of (Held used text) = used
