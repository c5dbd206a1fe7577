pub mod Text
pub mod TextLaws
pub mod Lines
pub mod LineFields
pub mod AskAdditions
pub mod Ask
pub mod ReplyLines
pub mod Output
