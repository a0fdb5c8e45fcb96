pub mod Places
pub mod OrBits
pub mod Sheet
pub mod Packed
pub mod PlaceCases
