pub mod QuestionSteps
pub mod ChangeSteps
pub mod Cutting
pub mod Passing
pub mod Replying
pub mod Turning
pub mod Alone
pub mod WrittenOut
