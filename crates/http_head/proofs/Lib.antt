pub mod MemberLemmas
pub mod AskedLemmas
pub mod FieldLemmas
pub mod TargetLemmas
pub mod JudgeLemmas
pub mod HeadLemmas
