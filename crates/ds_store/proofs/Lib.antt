mod Apart
mod Firsts
mod Growing
mod Keying
pub mod Lasting
mod Taking
mod Texting
mod Told
mod Unkept
mod Unsound
