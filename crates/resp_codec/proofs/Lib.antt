pub mod Fed
pub mod After
pub mod Answering
pub mod Ending
pub mod Streams
pub mod Written
pub mod Framed
