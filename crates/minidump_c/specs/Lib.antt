-- The definitions that the contracts cite.
pub mod Status
pub mod Text
pub mod Memory
pub mod Spans
pub mod Frames
pub mod Tables
pub mod Exceptions
pub mod Facts
pub mod Numbers
pub mod Rows
