pub mod Figures
pub mod Paths
pub mod FigureLaws
pub mod PathLaws
pub mod FigureRows
