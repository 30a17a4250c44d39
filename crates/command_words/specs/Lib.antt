pub mod Apps
pub mod Topics
pub mod Words
pub mod WordsRead
