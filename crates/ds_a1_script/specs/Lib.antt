pub mod EditLines
pub mod OpenScripts
