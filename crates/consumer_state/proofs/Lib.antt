pub mod Linking
pub mod Lacking
pub mod Sorting
pub mod Knowing
pub mod Fixing
pub mod Assigning
pub mod PositionLemmas
pub mod SeekLemmas
