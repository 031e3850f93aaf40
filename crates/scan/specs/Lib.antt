pub mod Fields
pub mod Tags
pub mod Walking
pub mod Answers
