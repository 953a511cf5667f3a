-- What the contracts of this crate cite.
pub mod CodeId
pub mod CodeView
pub mod DebugId
pub mod Version
pub mod Identity
pub mod Module
pub mod ModuleList
pub mod UnloadedModule
pub mod UnloadedOrder
pub mod UnloadedModuleList
pub mod ModuleText
