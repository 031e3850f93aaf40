pub mod FormPlaces
pub mod Candidates
