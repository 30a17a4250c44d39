pub mod PickLemmas
pub mod NodeLemmas
pub mod StepLemmas
pub mod CountLemmas
pub mod PartLemmas
