-- The lemmas of this crate.
pub mod ThreadLemmas
pub mod HandleLemmas
pub mod CrashpadLemmas
pub mod MacLemmas
pub mod BoundLemmas
