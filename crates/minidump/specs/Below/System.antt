-- What `minidump_system` defines, for the crates above this one.
pub use Rattle.minidump_system.specs.Chain
pub use Rattle.minidump_system.specs.Cpu
pub use Rattle.minidump_system.specs.CpuInfo
pub use Rattle.minidump_system.specs.Dates
pub use Rattle.minidump_system.specs.ExactlyOne
pub use Rattle.minidump_system.specs.Framing
pub use Rattle.minidump_system.specs.LastValues
pub use Rattle.minidump_system.specs.Meaning
pub use Rattle.minidump_system.specs.MiscInfo
pub use Rattle.minidump_system.specs.Os
pub use Rattle.minidump_system.specs.OsParts
pub use Rattle.minidump_system.specs.Reads
pub use Rattle.minidump_system.specs.StreamSpec
pub use Rattle.minidump_system.specs.System
pub use Rattle.minidump_system.specs.SystemInfo
