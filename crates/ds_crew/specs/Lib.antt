pub mod Receipts
pub mod LockedCalls
pub mod Kept
pub mod Trails
pub mod Passes
pub mod Ends
pub mod Audits
