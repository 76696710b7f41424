pub mod Twine
pub mod Split
pub mod Vectors
