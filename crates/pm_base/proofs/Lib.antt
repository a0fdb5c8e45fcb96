pub mod Puts
pub mod ByKind
pub mod Lists
pub mod Running
