-- The definitions that the contracts cite.
pub mod OwnStream
pub mod RegionAt
pub mod ThreadIds
