pub mod Numbers
pub mod Nodes
pub mod Plain
pub mod Places
