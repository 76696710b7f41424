pub mod SboxCircuit
pub mod Planes
