pub mod Member
pub mod Asked
pub mod Fields
pub mod Head
pub mod Blank
pub mod Parts
