pub mod RecoverySteps
pub mod RecoverBegun
pub mod RecoverTakes
pub mod MigrationSteps
pub mod MigrationTakes
pub mod Unmarked
