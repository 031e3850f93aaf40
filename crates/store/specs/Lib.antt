pub mod Stores
pub mod Entries
