-- What `minidump_stability` defines, for the crates above this one.
pub use Rattle.minidump_stability.specs.Fields
pub use Rattle.minidump_stability.specs.StabilityReport
pub use Rattle.minidump_stability.specs.ReportText
