-- The events due of what has come.
pub mod Opens
pub mod FewEvents
pub mod NoDone
pub mod Shown
pub mod GivenCounts
pub mod FramesDue
pub mod OutsideDue
pub mod InsideDue
pub mod TextsDue
pub mod QuietLines
pub mod QuietTokens
pub mod LinesDue
pub mod BigNumbersDue
pub mod ContentDue
pub mod ChunksDue
pub mod EventsDue
