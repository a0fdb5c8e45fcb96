pub mod States
pub mod Orders
pub mod Alike
pub mod Following
pub mod Closed
pub mod Buffers
pub mod Drawn
