-- The lemmas of this crate.
pub mod DirectoryLemmas
pub mod EntryLemmas
pub mod ExceptionLemmas
pub mod LawsLemmas
pub mod ListRules
pub mod NumberedLemmas
pub mod StackLemmas
pub mod ThreadLemmas
pub mod PrintLemmas
pub mod ReportLemmas
pub mod SharedLemmas
pub mod SystemLemmas
pub mod CrashLemmas
-- for the crates above
pub use Rattle.minidump_format.proofs.Blocking
pub use Rattle.minidump_format.proofs.Printing
