pub mod Answering
pub mod Passing
pub mod Itemizing
pub mod Finding
pub mod InOrder
pub mod Reading
