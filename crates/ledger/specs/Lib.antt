pub mod Marks
pub mod History
pub mod Calls
pub mod Vectors
