pub mod Shares
pub mod Acts
pub mod Books
pub mod Shared
pub mod Drills
pub mod Outcomes
pub mod Services
