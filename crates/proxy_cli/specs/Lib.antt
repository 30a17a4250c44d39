pub mod Causes
pub mod Ended
pub mod Patience
pub mod Program
pub mod Served
pub mod Session
pub mod Status
pub mod Exchange
