-- The definitions that callers read.
pub mod Texts
pub mod Framing
pub mod Commands
pub mod Requests
pub mod Unfinished
pub mod KnownHeads
pub mod Keys
pub mod Laws
