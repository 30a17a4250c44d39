pub mod NameLists
pub mod NameLemmas
pub mod DefinitionLemmas
pub mod Outcomes
pub mod ListLemmas
pub mod MemberNameLemmas
