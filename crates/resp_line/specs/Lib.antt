pub mod Inline
pub mod Lines
