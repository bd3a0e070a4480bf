-- The definitions that callers read.
pub mod Attaching
pub mod Opened
pub mod Clients
pub mod Failing
pub mod Proxies
pub mod ServerLines
pub mod Probing
pub mod Replying
pub mod Rejecting
pub mod Room
pub mod Refusing
pub mod OwnReplies
pub mod Taking
pub mod Telling
pub mod Visiting
pub mod Leaving
pub mod Moving
pub mod Wishes
pub mod Openings
pub mod OpeningReplies
pub mod Hellos
pub mod Terms
pub mod Unfinished
pub mod ErrorRows
pub mod NameRows
-- The internal contracts of the parts, which no public contract names.
pub mod Reasons
