pub mod Present
pub mod Kept
pub mod Attached
pub mod KeptCounters
pub mod Queued
pub mod KeptRings
