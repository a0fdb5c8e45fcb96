pub mod ShowSteps
pub mod ShowBegun
pub mod ShowTakes
pub mod ShowRuns
pub mod ShowSolo
pub mod ShowMiddles
pub mod OneCollect
