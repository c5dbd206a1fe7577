pub mod Drafting
pub mod Fitting
pub mod PartView
pub mod Quotas
