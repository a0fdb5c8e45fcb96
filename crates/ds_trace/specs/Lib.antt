pub mod Rows
pub mod Trails
pub mod Traces
