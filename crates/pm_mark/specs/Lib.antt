pub mod Marks
pub mod Rises
