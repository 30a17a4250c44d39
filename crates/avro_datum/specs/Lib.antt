pub mod Data
pub mod Shown
