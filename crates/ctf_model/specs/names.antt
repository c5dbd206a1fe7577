pub mod KindNames
pub mod TypeNames
pub mod NameLaws
pub mod NameRows
pub mod Lookups
pub mod FindRows
