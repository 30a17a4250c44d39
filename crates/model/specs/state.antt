-- What there is: logs, consumers, calls, entries, names, and what stored bytes are shown as.
pub mod Hashes
pub mod Log
pub mod World
pub mod Forms
pub mod Entry
pub mod Names
