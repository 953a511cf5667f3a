-- What the contracts of this crate cite.
pub mod Fields
pub mod StabilityReport
pub mod Rows
pub mod ReportRows
pub mod ReportText
