pub mod Behind
pub mod Item
pub mod Reading
pub mod Varint
pub mod Crc
pub mod Laws
