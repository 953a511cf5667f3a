-- The lemmas of this crate.
pub mod Ascending
pub mod Found
