pub mod Framed
pub mod Sound
