pub mod Receiving
pub mod Lining
