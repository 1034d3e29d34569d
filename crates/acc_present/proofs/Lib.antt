pub mod Finding
pub mod Mapping
pub mod Registering
pub mod Limits
pub mod Placed
pub mod Keyed
pub mod Bounded
pub mod Keeping
mod Changed
pub mod Copied
pub mod Crossing
