pub mod State
pub mod Feeding
