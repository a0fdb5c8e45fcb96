pub mod Crossing
mod Listed
mod Lists
