mod Naming
pub mod Played
pub mod Driving
pub mod Calling
pub mod Settles
pub mod Scripts
pub mod RecoverPlayed
pub mod Settled
pub mod Recalculated
pub mod Turning
pub mod InOrder
pub mod Halting
