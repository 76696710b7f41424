pub mod Blocks
pub mod Pads
pub mod Words
pub mod Chain
pub mod Ran
pub mod Laws
pub mod Examples
