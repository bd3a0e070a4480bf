pub mod Lists
pub mod Steps
pub mod Shown
pub mod Removal
pub mod Rounds
