-- The definitions that the contracts cite.
pub mod Registers
pub mod Symbols
pub mod Unwinder
pub mod Rules
pub mod Walk
