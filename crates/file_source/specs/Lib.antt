-- What a list file holds, and what a source over it answers.
pub mod FileAnswers
pub mod FileLists
pub mod Filed
pub mod ListFile
pub mod PlainRows
pub mod Shelved
pub mod Taking
pub mod Unread
