pub mod Placing
pub mod Waits
pub mod Lanes
pub mod Cuts
pub mod Outputs
pub mod Pieces
pub mod Descriptors
pub mod Ways
