pub mod Tables
pub mod Checks
pub mod Finish
pub mod Judge
pub mod Whole
pub mod Written
