pub mod Present
pub mod Block
pub mod Vectors
pub mod SBoxCircuit
pub mod RoundKeys
pub mod Bytes
