pub mod Wanted
pub mod Whole
pub mod Driven
pub mod Marked
pub mod Settling
pub mod Lone
pub mod Traces
pub mod Found
