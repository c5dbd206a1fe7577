pub mod Pieces
pub mod MemoryBits
pub mod Values
pub mod ValueRows
pub mod ValueLaws
