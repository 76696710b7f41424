pub mod Cloc
pub mod Examples
pub mod Undoing
pub mod Sizes
pub mod Forms
