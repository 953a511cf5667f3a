-- The definitions that the contracts cite.
pub mod Form
pub mod Output
pub mod Printed
pub mod Status
pub mod Run
