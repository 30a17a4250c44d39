pub mod Formats
pub mod Shown
pub mod Stored
pub mod Text
pub mod decide
