-- The definitions that the contracts cite: the value of a crash is `json_of` of Report.antt.
pub mod Tree
pub mod ReportValue
pub mod System
pub mod Cause
pub mod Modules
pub mod Frames
pub mod Threads
pub mod Records
pub mod Crashpad
pub mod Point
pub mod Minidump
pub mod Report
