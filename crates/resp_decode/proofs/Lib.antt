pub mod Folds
pub mod Comes
pub mod Counted
pub mod Values
pub mod HeldLemmas
pub mod Taking
pub mod Feeding
pub mod ReadingInputs
pub mod EventsElsewhere
pub mod EqualEvents
pub mod OneSpelling
-- Of the decoder that keeps the first bytes of each text.
pub mod Keeping
pub mod Keeps
pub mod CutFeeding
