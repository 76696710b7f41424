pub mod Sizes
pub mod Tubes
pub mod Verdicts
