pub mod Told
pub mod Stream
pub mod Next
pub mod Front
pub mod Body
