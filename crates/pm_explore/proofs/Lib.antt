pub mod Lists
pub mod Showing
pub mod Leading
pub mod Closing
pub mod Starting
