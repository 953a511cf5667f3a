-- The lemmas of this crate.
pub mod ArrayLemmas
pub mod ContextLemmas
pub mod LawLemmas
pub mod NameLemmas
pub mod ValidLemmas
pub mod WideHexLemmas
