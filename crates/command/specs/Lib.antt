pub mod Layouts
pub mod Commands
pub mod Writing
pub mod Walks
pub mod Offending
