pub mod Plain
pub mod Paints
pub mod Waiting
