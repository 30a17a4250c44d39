pub mod Loops
pub mod Places
pub mod Refusals
pub mod Rows
