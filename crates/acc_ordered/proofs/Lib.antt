pub mod Numbers
pub mod Halving
pub mod Laying
pub mod Searched
pub mod Placing
pub mod Reading
pub mod Changing
pub mod NoRows
pub mod Starting
pub mod Answering
pub mod Joining
pub mod Counting
pub mod Halved
pub mod Paired
pub mod Written
pub mod HalfFull
pub mod Listed
mod Inserted
mod Removed
