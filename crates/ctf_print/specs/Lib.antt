pub mod Finding
pub mod ImageView
pub mod ShowCacheView
pub mod Placing
pub mod Standing
pub mod ShowRules
pub mod ShowRuleView
pub mod Written
