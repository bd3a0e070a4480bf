-- The definitions that callers of the client read.
pub mod Clients
pub mod Standing
pub mod Hearing
pub mod Sending
pub mod PushLists
-- The internal contracts of the steps of a feed, which no public contract names.
pub mod Steps
