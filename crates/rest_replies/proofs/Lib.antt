pub mod FailureLemmas
pub mod CreationLemmas
pub mod JoinedLemmas
pub mod ListingLemmas
pub mod OffsetsLemmas
pub mod RowLemmas
pub mod TopicsLemmas
