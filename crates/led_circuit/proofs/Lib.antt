pub mod Bytes
pub mod RoundLayers
