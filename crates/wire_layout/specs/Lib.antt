pub mod Layout
pub mod Laid
pub mod Whole
pub mod ItemLaws
pub mod ArrayLaws
pub mod RowLaws
