mod Counting
pub mod Noting
pub mod ReadsBack
mod Written
