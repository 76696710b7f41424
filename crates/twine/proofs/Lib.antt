pub mod States
pub mod Placing
pub mod Keys
