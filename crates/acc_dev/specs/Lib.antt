pub mod Marks
pub mod Device
pub mod Kept
pub mod Room
pub mod Ending
pub mod Slots
pub mod Host
