-- Worlds: each event leaves what the definitions say.
pub mod Places
pub mod Reading
pub mod Frames
pub mod Asked
pub mod Carried
pub mod Pushed
pub mod Opened
pub mod Events
pub mod Moves
pub mod Lacking
pub mod Performed
pub mod Parts
pub mod Kept
pub mod Memory
pub mod Running
