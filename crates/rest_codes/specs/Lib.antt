pub mod Errors
pub mod Methods
pub mod Response
