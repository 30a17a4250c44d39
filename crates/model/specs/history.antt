-- What steps are together: legal histories, the entries of the code, connections.
pub mod Legal
pub mod Stored
pub mod Stretch
pub mod Served
pub mod Causes
pub mod Nodes
pub mod Noted
pub mod Owed
pub mod Handled
pub mod Connections
pub mod Sessions
pub mod Single
