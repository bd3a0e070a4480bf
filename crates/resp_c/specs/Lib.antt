-- The events that C receives, in the scanner's terms.
pub mod EventNumbers
pub mod Told
pub mod Scans
pub mod Steps
pub mod Limits
pub mod Versions
-- The answers of each call.
pub mod Answers
-- The memory of the caller.
pub mod Memory
pub mod Lent
-- The texts that are written.
pub mod Writes
-- The nodes that are filled.
pub mod Replies
-- The reply that an event belongs to.
pub mod CommandKinds
pub mod Pairs
pub mod Runs
