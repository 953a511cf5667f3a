-- The lemmas of this crate.
pub mod WidthLemmas
pub mod LineLemmas
pub mod RecordLemmas
pub mod RecordListLemmas
pub mod RuleLemmas
pub mod NumberedLemmas
pub mod InlineLemmas
pub mod FieldLemmas
pub mod GrammarLemmas
pub mod InlineGrammarLemmas
pub mod TreeLemmas
pub mod MemberLemmas
pub mod PublicLemmas
pub mod ChoiceLemmas
