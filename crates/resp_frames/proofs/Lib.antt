pub mod Ends
pub mod KnownHeads
pub mod Others
pub mod SameWords
pub mod WholeTexts
