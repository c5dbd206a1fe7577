pub mod Answers
pub mod Questions
pub mod SlotAnswers
pub mod HeldAnswers
pub mod QuestionRows
pub mod KeyOrder
