pub mod Rules
pub mod Known
pub mod Answers
