pub mod Devices
pub mod Turns
pub mod Pieces
pub mod Live
