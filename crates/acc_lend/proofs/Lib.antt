pub mod Summing
pub mod Taken
pub mod Turns
pub mod Writing
