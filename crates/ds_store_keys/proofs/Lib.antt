mod Aside
mod Finding
pub mod Listing
pub mod Plain
pub mod Tabling
mod Written
