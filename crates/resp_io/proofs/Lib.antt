pub mod Turning
pub mod Pieces
