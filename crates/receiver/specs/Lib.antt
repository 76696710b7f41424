pub mod Open
pub mod Step
pub mod Trace
pub mod Run
pub mod Sent
