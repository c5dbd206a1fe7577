pub mod Texts
pub mod Joined
