pub mod Streams
pub mod Input
pub mod ScriptLines
pub mod Fields
pub mod AnswerTexts
pub mod Csv
pub mod ScriptEndings
