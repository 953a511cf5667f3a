-- The lemmas of this crate.
mod BreakpadLemmas
mod FieldLemmas
mod FoundLemmas
mod InsideLemmas
mod KeptLemmas
pub mod ListLemmas
mod SameListLemmas
mod OrderLemmas
mod PaddingLemmas
mod RestLemmas
mod DisplayLemmas
pub mod UnloadedLaws
pub mod UnloadedViews
