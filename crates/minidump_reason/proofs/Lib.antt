-- The lemmas of this crate.
pub mod NamesLemmas
pub mod HasNameLemmas
pub mod ExactLemmas
