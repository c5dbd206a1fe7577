pub mod Singles
pub mod Items
pub mod Fields
pub mod TypeFields
pub mod AnswerContent
pub mod Counts
pub mod Replies
