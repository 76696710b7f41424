pub mod Xors
pub mod Matrix
pub mod Turns
