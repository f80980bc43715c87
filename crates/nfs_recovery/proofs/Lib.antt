pub mod JournalReads
