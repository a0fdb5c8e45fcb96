pub mod Closing
pub mod Crossing
pub mod Dealt
pub mod Knowing
pub mod Looking
pub mod Moving
