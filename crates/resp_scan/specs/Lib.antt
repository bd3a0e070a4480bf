-- The definitions that callers of the scanner read.
pub mod Reading
pub mod Listening
pub mod Parts
pub mod Slots
pub mod Counts
pub mod Kinds
pub mod Whole
pub mod Laws
-- The machine behind them, which no public contract names.
pub mod Machine
