pub mod ItemsView
pub mod LabelRows
pub mod Lists
pub mod PartsView
pub mod VariantView
