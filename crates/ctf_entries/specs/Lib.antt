pub mod EntriesView
pub mod FunctionView
pub mod Left
pub mod NamesView
pub mod Sound
pub mod SymbolView
