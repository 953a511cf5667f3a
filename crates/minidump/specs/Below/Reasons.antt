-- What `minidump_reason` defines, for the crates above this one.
pub use Rattle.minidump_reason.specs.Bits
pub use Rattle.minidump_reason.specs.Names
pub use Rattle.minidump_reason.specs.Reason
pub use Rattle.minidump_reason.specs.ReasonText
