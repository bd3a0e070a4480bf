pub mod Lined
pub mod Talks
pub mod Tellings
pub mod Hearing
pub mod Exchanging
