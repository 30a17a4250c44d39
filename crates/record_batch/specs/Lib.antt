pub mod Read
pub mod Record
pub mod Seen
pub mod Batch
pub mod Written
pub mod Moved
pub mod First
