pub mod Packing
pub mod Rounds
