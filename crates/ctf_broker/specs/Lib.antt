pub mod Table
pub mod Pages
pub mod Loading
