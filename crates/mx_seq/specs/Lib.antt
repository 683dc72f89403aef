pub mod Terms
pub mod Lists
pub mod Programs
pub mod ProgramView
pub mod Marks
pub mod Answers
pub mod Executions
pub mod Seqs
