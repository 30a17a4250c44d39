pub mod Topics
pub mod Names
pub mod Finding
pub mod Asking
