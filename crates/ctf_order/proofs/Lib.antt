pub mod Rest
pub mod Ranks
pub mod Lent
pub mod Search
pub mod Near
