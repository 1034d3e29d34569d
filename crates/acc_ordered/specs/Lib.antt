pub mod Listing
pub mod Pairs
pub mod Paired
pub mod Laid
pub mod Spots
pub mod Sound
