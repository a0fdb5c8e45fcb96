pub mod Table
pub mod Views
pub mod Rule
pub mod Starts
pub mod Looks
pub mod Fuses
pub mod Machines
