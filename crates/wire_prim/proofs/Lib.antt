pub mod BehindLemmas
pub mod VarintLemmas
pub mod TableRows
pub mod Linear
pub mod Eights
pub mod Readback
pub mod VarintLaws
pub mod Rows
