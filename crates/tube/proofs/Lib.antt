pub mod Parts
pub mod Past
pub mod Sections
pub mod Formed
pub mod Numbers
pub mod Laying
