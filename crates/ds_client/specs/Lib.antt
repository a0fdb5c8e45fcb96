pub mod Asks
pub mod Requests
pub mod DrawnKeys
pub mod AnswerLines
