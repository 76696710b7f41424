pub mod Silc
pub mod Examples
pub mod Sound
pub mod Chained
