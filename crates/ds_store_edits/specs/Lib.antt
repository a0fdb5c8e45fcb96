pub mod JournalEdits
