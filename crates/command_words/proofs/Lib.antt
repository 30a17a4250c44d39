pub mod Behind
pub mod Matches
pub mod Numbers
pub mod Plans
