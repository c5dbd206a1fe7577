pub mod Considering
pub mod NameFronts
pub mod Telling
