pub mod Lists
pub mod Records
pub mod Readings
pub mod Refusing
pub mod Bodies
