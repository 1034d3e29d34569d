pub mod Indexing
pub mod Copied
