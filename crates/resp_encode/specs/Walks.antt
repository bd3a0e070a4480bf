-- The passes over a value: measuring it, encoding it as far as possible, and writing it into spare room.
pub mod Sizes
pub mod Measures
pub mod Writings
pub mod Attempts
