pub mod Crossing
pub mod Sharing
pub mod Settling
pub mod Faults
pub mod Lengths
pub mod Stepping
pub mod Rounds
