pub mod Builds
pub mod Weights
pub mod Fits
pub mod Brief
pub mod Holding
pub mod Hearing
pub mod Standing
pub mod Decoding
-- The decoder that keeps the first bytes of each text.
pub mod CutBuilds
pub mod Keeping
pub mod CutDecoding
pub mod Inputs
pub mod Laws
