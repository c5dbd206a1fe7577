pub mod words
pub mod lines
pub mod answers
pub mod sessions
