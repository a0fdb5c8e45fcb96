pub mod Recalculations
pub mod Plans
