pub mod Value
pub mod Steps
pub mod Judging
pub mod Picks
pub mod Encoding
pub mod Reading
pub mod Parts
