-- First lines of values, and their least completions.
pub mod BegunLines
pub mod CountRows
pub mod FirstLineRows
pub mod MoreFirstLineRows
pub mod TextLines
pub mod ShortRows
