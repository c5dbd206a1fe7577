pub mod TypePlaces
pub mod TypeNumbers
pub mod Space
pub mod Imports
pub mod ImportRows
pub mod Kept
