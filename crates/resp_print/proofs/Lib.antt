pub mod WrittenLemmas
pub mod Quoted
pub mod QuotedWrites
pub mod Printing
pub mod Lines
pub mod Kept
pub mod Leaves
