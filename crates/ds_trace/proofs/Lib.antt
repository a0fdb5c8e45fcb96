pub mod Sides
pub mod Trails
pub mod Turning
pub mod Lines
mod Firsts
