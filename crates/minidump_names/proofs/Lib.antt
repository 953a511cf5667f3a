-- The lemmas of this crate.
pub mod FamilyLemmas
pub mod GrammarLemmas
pub mod ListingLemmas
pub mod LentLemmas
pub mod OrderLemmas
pub mod TextLemmas
