-- The lemmas, by subject.
pub mod FrameLaws
pub mod FirstLines
pub mod Tokens
pub mod Refusals
pub mod Between
pub mod EventLaws
