-- What `minidump_memory` defines, for the crates above this one.
pub use Rattle.minidump_memory.specs.Memory
pub use Rattle.minidump_memory.specs.MemoryList
pub use Rattle.minidump_memory.specs.Memory64List
pub use Rattle.minidump_memory.specs.Unified
pub use Rattle.minidump_memory.specs.UnifiedIter
pub use Rattle.minidump_memory.specs.MemoryInfo
pub use Rattle.minidump_memory.specs.MapLine
pub use Rattle.minidump_memory.specs.LinuxMaps
pub use Rattle.minidump_memory.specs.UnifiedInfo
pub use Rattle.minidump_memory.specs.UnifiedInfoIter
pub use Rattle.minidump_memory.specs.Contents
pub use Rattle.minidump_memory.specs.MemoryText
pub use Rattle.minidump_memory.specs.InfoText
