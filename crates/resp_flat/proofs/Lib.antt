pub mod Digits
pub mod NoneThere
pub mod LeavesNotThere
pub mod LeavesRead
pub mod ValuesRead
pub mod ValuesNotThere
mod PlacesRead
