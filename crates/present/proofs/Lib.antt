pub mod LayerBits
pub mod SBoxes
mod Permutation
mod Register
mod Rounds
