pub mod Inverse
pub mod Columns
pub mod Steps
pub mod Words
