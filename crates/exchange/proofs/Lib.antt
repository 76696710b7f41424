pub mod Cuts
pub mod Orders
pub mod Counts
pub mod Handed
pub mod Lines
pub mod Laws
