-- The definitions that the contracts cite: the backtraces of a crash by its symbol files are
-- `backtraces_in` of Backtraces.antt.
pub mod Symbols
pub mod Names
pub mod NameParts
pub mod Backtraces
pub mod Modules
pub mod Shown
pub mod Signature
