mod Matched
mod Grown
mod Refused
