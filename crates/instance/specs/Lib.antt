pub mod Views
pub mod Telling
pub mod Walk
pub mod Ending
pub mod Passing
pub mod Gathering
pub mod Handed
