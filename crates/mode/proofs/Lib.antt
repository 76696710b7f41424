pub mod Firsts
pub mod Seals
pub mod Opens
pub mod Laws
