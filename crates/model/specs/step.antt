-- What one step does: to the consumer, to the log, and to what is answered.
pub mod Walk
pub mod Fixed
pub mod Events
pub mod Hand
pub mod Saves
pub mod Look
pub mod Produced
pub mod Ends
pub mod Rules
pub mod Acts
pub mod Asked
pub mod Step
pub mod Committing
pub mod Bounds
pub mod Buffers
