pub mod Numbers
pub mod Fault
