pub mod Rights
pub mod Deals
pub mod Crossing
pub mod Settles
pub mod Trails
