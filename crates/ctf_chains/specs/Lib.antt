pub mod Deep
pub mod Numbers
pub mod Places
pub mod Search
pub mod Starts
pub mod Steps
pub mod TypesView
