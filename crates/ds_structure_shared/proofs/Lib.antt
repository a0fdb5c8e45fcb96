pub mod Ending
pub mod Beginning
pub mod Contents
pub mod Working
pub mod NewWords
pub mod Crossing
