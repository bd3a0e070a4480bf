-- The next item of a decoder and a buffer, and of a codec.
pub mod Frames
pub mod Next
pub mod Values
pub mod Commands
-- The values of a stream, and the items of a framed reader.
pub mod Streams
pub mod FramedReaders
-- The proofs of the laws that a codec has to keep.
pub mod FrameLaws
pub mod NextLaws
