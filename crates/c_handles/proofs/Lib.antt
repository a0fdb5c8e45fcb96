pub mod Carried
pub mod Crossing
mod HeapBox
pub mod Moved
pub mod Walks
