pub mod Words
pub mod ModelNames
pub mod WordRows
pub mod Addables
pub mod Short
