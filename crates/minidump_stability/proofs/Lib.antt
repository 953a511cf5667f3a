-- The lemmas of this crate.
pub mod RowLemmas
pub mod ReportLemmas
pub mod FieldLemmas
pub mod MergeLemmas
pub mod ExactLemmas
