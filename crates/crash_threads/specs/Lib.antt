-- The definitions that the contracts cite.
pub mod Last
pub mod Contexts
pub mod Counting
pub mod Addresses
pub mod Cause
pub mod Frames
pub mod Threads
pub mod Point
