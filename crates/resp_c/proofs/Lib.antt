pub mod RoomTexts
pub mod Refusals
pub mod Asks
pub mod ShownEvents
pub mod ManyEvents
pub mod Runs
