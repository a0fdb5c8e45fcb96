pub mod Orders
pub mod Along
