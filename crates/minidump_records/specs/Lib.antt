-- What the contracts of this crate cite: a module for each stream.
pub mod NamedText
pub mod ThreadNames
pub mod ThreadInfo
pub mod Handles
pub mod Crashpad
pub mod BreakpadInfo
pub mod Assertion
pub mod BootArgs
pub mod MacCrashInfo
pub mod Linux
pub mod SoftErrors
pub mod Print
pub mod Bounds
