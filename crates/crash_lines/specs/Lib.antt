-- The definitions that the contracts cite, those of `crash_text` too.
pub mod Lines
pub mod Words
pub mod System
pub mod Point
pub mod Exceptions
pub mod Messages
pub mod Parts
