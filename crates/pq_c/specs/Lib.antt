pub mod Failures
pub mod Answers
pub mod Holders
pub mod Shared
pub mod Queues
pub mod Closed
