-- What `minidump_index` defines, for the crates above this one.
pub use Rattle.minidump_index.specs.Digits
pub use Rattle.minidump_index.specs.Kept
pub use Rattle.minidump_index.specs.Lookup
pub use Rattle.minidump_index.specs.Overlap
pub use Rattle.minidump_index.specs.Tree
