pub mod Chunks
pub mod Body
pub mod Found
