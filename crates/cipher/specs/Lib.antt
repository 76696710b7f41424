pub mod Fault
pub mod Left
pub mod Run
pub mod Key
