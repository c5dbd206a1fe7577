mod Slots
mod Drafted
pub mod Steps
pub mod Runs
mod Answered
mod Effects
mod Staying
mod Numbers
mod Asked
pub mod Promises
mod Right
mod One
pub mod Replied
