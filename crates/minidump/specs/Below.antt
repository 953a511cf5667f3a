-- What the crates below define, for the crates above this one.
pub mod Bytes
pub mod Format
pub mod Index
pub mod System
pub mod MemoryLists
pub mod Stability
pub mod Contexts
pub mod Modules
pub mod Reasons
pub mod Records
