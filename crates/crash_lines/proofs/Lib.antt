-- What several proofs share, those of `crash_text` too.
pub mod LineLemmas
