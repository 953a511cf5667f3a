pub mod KnownNames
