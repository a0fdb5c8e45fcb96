pub mod Statuses
pub mod Details
pub mod Forms
pub mod Analyses
