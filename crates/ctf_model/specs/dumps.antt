pub mod Dump
pub mod DumpRows
pub mod Texts
