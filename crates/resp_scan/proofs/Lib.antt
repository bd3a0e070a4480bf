-- The lemmas, by subject.
pub mod TokenMoves
pub mod HeadMoves
pub mod DueEvents
pub mod CallClauses
pub mod Soundness
pub mod Wholes
