pub mod FirstBytes
pub mod Words
pub mod Reading
pub mod Runs
