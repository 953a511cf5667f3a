-- What the contracts of this crate cite.
pub mod NameLine
pub mod NamesText
