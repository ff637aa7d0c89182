pub mod LittleEndian
pub mod RegionSteps
