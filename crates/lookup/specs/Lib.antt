pub mod Places
pub mod Lookups
pub mod Carriers
pub mod Answers
