-- The lemmas of this crate.
mod OutputLemmas
mod PrintedLemmas
mod ReportLemmas
