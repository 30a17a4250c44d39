pub mod Decisions
pub mod Tokens
pub mod Values
