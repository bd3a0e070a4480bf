pub mod InlineLines
pub mod WordLines
