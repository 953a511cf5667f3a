-- What the contracts of this crate cite.
pub mod Register
pub mod X86
pub mod Amd64
pub mod Arm
pub mod Arm64
pub mod Context
pub mod Text
