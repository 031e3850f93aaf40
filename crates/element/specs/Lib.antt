pub mod Elements
pub mod Places
pub mod Results
pub mod Search
