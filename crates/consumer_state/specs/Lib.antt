pub mod Views
pub mod Assign
pub mod LinkCalls
pub mod Topics
pub mod Order
pub mod Fix
pub mod Positions
