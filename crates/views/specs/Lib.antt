pub mod Words
pub mod Asked
