pub mod ByKind
pub mod ListedTypes
pub mod ListedView
pub mod Pieces
pub mod RecordView
