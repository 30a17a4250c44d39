-- Small histories and answers, on which the words are shown.
pub mod Example
pub mod Answers
pub mod Readings
pub mod Subscribing
pub mod Expiring
pub mod Waiting
pub mod Asking
pub mod Rounds
pub mod ReadingReplies
pub mod Pinned
pub mod Rights
