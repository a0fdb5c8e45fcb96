pub mod Paths
pub mod Sums
