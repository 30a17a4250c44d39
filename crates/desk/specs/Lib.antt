pub mod Keys
pub mod Consumers
pub mod Action
pub mod Shelf
pub mod Step
pub mod Call
pub mod Clocked
pub mod Runs
