pub mod JournalFiles
