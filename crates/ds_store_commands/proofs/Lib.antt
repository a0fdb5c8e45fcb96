mod Asked
mod Firsts
mod Lists
mod Values
