pub mod Names
pub mod NameList
pub mod Outcomes
pub mod Definitions
pub mod MemberNames
