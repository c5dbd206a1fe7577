pub mod Status
pub mod Argument
pub mod Files
pub mod Started
pub mod Starts
