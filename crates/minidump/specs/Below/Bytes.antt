-- What `minidump_bytes` defines, for the crates above this one.
pub use Rattle.minidump_bytes.specs.Cut
pub use Rattle.minidump_bytes.specs.Digits
pub use Rattle.minidump_bytes.specs.Entries
pub use Rattle.minidump_bytes.specs.Exact
pub use Rattle.minidump_bytes.specs.Layout
pub use Rattle.minidump_bytes.specs.Line
pub use Rattle.minidump_bytes.specs.LinuxOsStr
pub use Rattle.minidump_bytes.specs.Number
pub use Rattle.minidump_bytes.specs.Piece
pub use Rattle.minidump_bytes.specs.Source
pub use Rattle.minidump_bytes.specs.Span
pub use Rattle.minidump_bytes.specs.Steps
pub use Rattle.minidump_bytes.specs.Text16
pub use Rattle.minidump_bytes.specs.Text8
pub use Rattle.minidump_bytes.specs.Told
pub use Rattle.minidump_bytes.specs.Wire
