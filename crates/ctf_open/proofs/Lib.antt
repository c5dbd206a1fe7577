pub mod Alike
pub mod ByShape
pub mod Creating
pub mod DraftParents
pub mod EmptyDrafts
pub mod Fitting
pub mod Late
