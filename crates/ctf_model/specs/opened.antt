pub mod Open
pub mod Questions
pub mod Sizes
pub mod Steps
