pub mod ReadLemmas
pub mod RecordLemmas
pub mod Places
pub mod Adding
pub mod BatchLemmas
pub mod Appending
pub mod RoundTrip
pub mod BatchTrip
pub mod OffsetLaws
mod Moving
mod FirstLemmas
mod OneBatchLemmas
mod FaultLemmas
