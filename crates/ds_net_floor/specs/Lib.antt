pub mod EditLists
pub mod Entries
pub mod Listings
