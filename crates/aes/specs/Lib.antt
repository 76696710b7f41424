pub mod Field
pub mod Sbox
pub mod Fips197
pub mod Rounds
pub mod Tables
pub mod Vectors
