-- The lemmas of this crate.
pub mod CommandLemmas
pub mod ProgramLemmas
