-- The definitions that callers of the encoder read.
pub mod Encodings
pub mod Refusals
pub mod Pushes
pub mod Laws
pub mod Lengths
-- The internal contracts of the passes over a value, which no public contract names.
pub mod Walks
