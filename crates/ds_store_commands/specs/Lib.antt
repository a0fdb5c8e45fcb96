pub mod Asked
pub mod Exports
pub mod Imports
pub mod Lists
pub mod Logs
pub mod Statuses
pub mod Tables
