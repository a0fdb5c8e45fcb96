pub mod CommandEnds
pub mod JsonAnswers
pub mod JsonScripts
