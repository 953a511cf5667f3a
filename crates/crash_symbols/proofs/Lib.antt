-- The lemmas of this crate.
pub mod ListLemmas
pub mod PathLemmas
