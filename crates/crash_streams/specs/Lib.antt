-- The definitions that the contracts cite.
pub mod Missing
pub mod Contents
pub mod Records
