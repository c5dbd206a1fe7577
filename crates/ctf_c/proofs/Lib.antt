pub mod Naming
pub mod NotOpen
pub mod FilledRows
pub mod TypeRows
pub mod ArgumentRows
pub mod ListedRows
pub mod RowLaws
pub mod Shapes
