pub mod ListedNumbers
pub mod Reading
pub mod Whole
