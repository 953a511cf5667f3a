-- The lemmas of this crate.
pub mod AddressLemmas
pub mod CallerLemmas
pub mod EvidenceLemmas
pub mod FoundLemmas
