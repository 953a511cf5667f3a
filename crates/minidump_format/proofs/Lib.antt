-- Lemmas on the records, for this crate and those above.
pub mod AnswerLemmas
pub mod Equality
mod GuidLemmas
pub mod FlagLemmas
pub mod Printing
pub mod Blocking
pub mod NumberedLemmas
pub mod SequenceLemmas
pub mod XstateLemmas
