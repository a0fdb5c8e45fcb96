pub mod Recalculated
