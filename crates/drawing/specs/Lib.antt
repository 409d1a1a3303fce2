pub mod File
pub mod Parsed
