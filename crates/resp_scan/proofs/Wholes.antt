-- What lies completely at the beginning of a text.
pub mod HeadNumbers
pub mod ShortNumbers
pub mod WordFronts
pub mod ManyWords
pub mod FirstWords
pub mod Commands
