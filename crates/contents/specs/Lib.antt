pub mod Words
pub mod Contents
pub mod Rows
pub mod Listing
