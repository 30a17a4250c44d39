pub mod Heard
pub mod Finding
pub mod Asked
