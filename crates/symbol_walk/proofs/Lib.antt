-- The lemmas of this crate.
pub mod KnownLemmas
pub mod ReachLemmas
pub mod WithoutLemmas
