-- What `minidump_records` defines, for the crates above this one.
pub use Rattle.minidump_records.specs.NamedText
pub use Rattle.minidump_records.specs.ThreadNames
pub use Rattle.minidump_records.specs.ThreadInfo
pub use Rattle.minidump_records.specs.Crashpad.Annotations
pub use Rattle.minidump_records.specs.Crashpad
pub use Rattle.minidump_records.specs.Crashpad.Dictionary
pub use Rattle.minidump_records.specs.Crashpad.Parts
pub use Rattle.minidump_records.specs.BreakpadInfo
pub use Rattle.minidump_records.specs.Assertion
pub use Rattle.minidump_records.specs.BootArgs
pub use Rattle.minidump_records.specs.SoftErrors
pub use Rattle.minidump_records.specs.Linux.Pairs
pub use Rattle.minidump_records.specs.Linux
pub use Rattle.minidump_records.specs.Handles
pub use Rattle.minidump_records.specs.Handles.Descriptor
pub use Rattle.minidump_records.specs.Handles.ObjectChain
pub use Rattle.minidump_records.specs.MacCrashInfo.Record
pub use Rattle.minidump_records.specs.MacCrashInfo
pub use Rattle.minidump_records.specs.Bounds
pub use Rattle.minidump_records.specs.Print
pub use Rattle.minidump_records.specs.Crashpad.Text as CrashpadText
pub use Rattle.minidump_records.specs.MacCrashInfo.Text as MacCrashInfoText
pub use Rattle.minidump_records.specs.Linux.Text as LinuxText
