pub mod Places
pub mod Plans
pub mod Stands
pub mod Rounds
pub mod Attempts
pub mod Allowances
