pub mod Fault
pub mod Part
pub mod Write
pub mod Put
pub mod Read
pub mod Form
pub mod Vectors
