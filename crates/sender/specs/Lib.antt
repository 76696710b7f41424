pub mod New
pub mod Send
pub mod Carry
