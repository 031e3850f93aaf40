pub mod Texts
pub mod Copying
pub mod Fields
