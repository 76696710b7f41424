pub mod SBoxCircuit
pub mod Halves
