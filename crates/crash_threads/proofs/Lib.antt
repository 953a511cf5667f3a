-- The lemmas of this crate.
pub mod FirstLemmas
pub mod Lasts
pub mod PointLemmas
