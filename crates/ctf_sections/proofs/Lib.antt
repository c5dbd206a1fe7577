pub mod LastNames
pub mod Numbers
pub mod SameTexts
pub mod Texts
