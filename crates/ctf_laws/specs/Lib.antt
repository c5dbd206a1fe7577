pub mod Good
pub mod GoodLaws
pub mod PlainLaws
pub mod Endings
pub mod Right
pub mod Replied
