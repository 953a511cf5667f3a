-- What the contracts of this crate cite.
pub mod Bits
pub mod Names
pub mod Reason
pub mod ReasonText
