pub mod Indexed
pub mod Lends
