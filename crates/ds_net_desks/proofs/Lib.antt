pub mod Crossing
mod Hears
mod Keys
mod Reading
mod Seating
mod Sharing
mod Viewing
