pub mod Tokens
pub mod Notation
pub mod Words
pub mod Answers
