mod OptionFacts
pub mod OptionLemmas
-- (cited by `whocrashed`)
pub mod SymbolLemmas
mod Utf8Lemmas
