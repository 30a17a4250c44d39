pub mod Number
pub mod Chars
pub mod Tokens
pub mod Scans
pub mod TokenEnds
pub mod Integer
pub mod Grammar
