pub mod Sends
pub mod Receives
pub mod Leads
pub mod Exchanged
