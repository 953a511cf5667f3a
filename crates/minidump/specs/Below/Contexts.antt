-- What `minidump_context` defines, for the crates above this one.
pub use Rattle.minidump_context.specs.Register
pub use Rattle.minidump_context.specs.X86
pub use Rattle.minidump_context.specs.Amd64
pub use Rattle.minidump_context.specs.Arm
pub use Rattle.minidump_context.specs.Arm64
pub use Rattle.minidump_context.specs.Context
pub use Rattle.minidump_context.specs.Text
