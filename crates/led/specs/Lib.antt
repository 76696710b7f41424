pub mod Led
pub mod Columns
pub mod Vectors
