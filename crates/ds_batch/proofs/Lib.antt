mod Openings
mod Records
