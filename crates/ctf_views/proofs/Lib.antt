pub mod Items
pub mod Labelled
pub mod MemberNames
pub mod Named
pub mod Shows
