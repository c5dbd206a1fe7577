pub mod Symbols
pub mod Entries
pub mod SymbolQuestions
pub mod SymbolRows
