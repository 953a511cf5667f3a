-- What `minidump_modules` defines, for the crates above this one.
pub use Rattle.minidump_modules.specs.CodeId
pub use Rattle.minidump_modules.specs.CodeView
pub use Rattle.minidump_modules.specs.DebugId
pub use Rattle.minidump_modules.specs.Identity
pub use Rattle.minidump_modules.specs.Module
pub use Rattle.minidump_modules.specs.ModuleText
pub use Rattle.minidump_modules.specs.ModuleList
pub use Rattle.minidump_modules.specs.UnloadedModule
pub use Rattle.minidump_modules.specs.UnloadedModuleList
pub use Rattle.minidump_modules.specs.UnloadedOrder
pub use Rattle.minidump_modules.specs.Version
