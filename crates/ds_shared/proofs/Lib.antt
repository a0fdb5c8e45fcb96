pub mod Passing
pub mod Noting
pub mod Joined
pub mod Ordered
pub mod Texts
pub mod Crossing
