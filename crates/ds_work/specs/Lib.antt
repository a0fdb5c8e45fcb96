pub mod WorkSteps
pub mod Noted
pub mod Reading
pub mod WorkTakes
pub mod WorkRank
pub mod WorkAnswers
pub mod WorkShows
pub mod WorkAlone
