pub mod Parts
pub mod Groups
pub mod Payloads
pub mod Plain
pub mod Request
pub mod Send
