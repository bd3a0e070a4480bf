pub mod Shown
pub mod Written
pub mod Printed
pub mod Kept
pub mod Headings
