-- What several proofs share.
pub mod MarkLemmas
