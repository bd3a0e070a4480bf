pub mod Ranges
pub mod Times
pub mod Names
pub mod Rows
