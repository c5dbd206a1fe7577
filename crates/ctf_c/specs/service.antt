pub mod Given
pub mod Operating
pub mod Owned
pub mod Served
pub mod OptionBoxes
