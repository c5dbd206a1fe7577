pub mod NewTypes
pub mod Drafts
pub mod Placement
pub mod Adders
pub mod DraftChanges
pub mod DraftRows
pub mod Fitting
pub mod DraftLaws
