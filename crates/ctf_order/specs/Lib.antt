pub mod Naming
pub mod Names
pub mod Holding
pub mod Lending
pub mod Searching
