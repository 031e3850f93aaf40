pub mod Page
pub mod Rendering
pub mod Lines
