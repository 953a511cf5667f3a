-- The definitions that the contracts cite.
pub mod Addresses
pub mod Lookups
pub mod Frames
pub mod Walk
pub mod Evidence
pub mod Found
pub mod Threads
