pub mod AnswerTypes
pub mod Successes
