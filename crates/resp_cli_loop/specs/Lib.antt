pub mod ScriptSteps
pub mod Reasons
pub mod Scripts
pub mod Printed
pub mod Plays
