-- Replies as the Confluent REST Proxy API v2 writes them.
pub mod Bodies
pub mod Texts
