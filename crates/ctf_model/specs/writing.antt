pub mod WrittenNames
pub mod WrittenRecords
pub mod Written
pub mod WritingLaws
pub mod WritingRows
