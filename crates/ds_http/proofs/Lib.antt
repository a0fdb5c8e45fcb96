pub mod Shaking
pub mod Takings
pub mod Posting
pub mod Words
