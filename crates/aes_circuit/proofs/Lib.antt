pub mod SboxLanes
pub mod PlaneBits
pub mod PlaneBytes
pub mod Mixing
pub mod PlaneSteps
pub mod Rounds
