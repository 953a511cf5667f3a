-- The definitions that the contracts cite.
pub mod Ascending
pub mod FileName
pub mod Directory
pub mod Release
pub mod ProcessTexts
pub mod HandleKinds
pub mod Linux
pub mod Process
pub mod Modules
