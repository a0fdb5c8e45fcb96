pub mod Boards
pub mod Ends
pub mod Works
