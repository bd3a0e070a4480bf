pub mod Json
pub mod Laws
pub mod Pairs
