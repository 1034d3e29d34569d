pub mod DeviceLists
pub mod NewDevices
pub mod AllDevices
pub mod InUse
pub mod Nothing
pub mod Verdicts
pub mod Foretold
pub mod Judging
pub mod Keeping
pub mod Answering
pub mod Running
pub mod Replying
pub mod Telling
pub mod Tallied
pub mod Lawful
pub mod Apart
pub mod Crossing
mod Compared
