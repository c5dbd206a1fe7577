pub mod SpaceView
pub mod TypeView
