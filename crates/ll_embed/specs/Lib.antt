pub mod Alone
pub mod Answers
pub mod Buffer
pub mod LearnAnswers
pub mod Lines
pub mod Questions
pub mod CheckAnswers
