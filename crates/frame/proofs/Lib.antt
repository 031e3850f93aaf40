pub mod FrameLaws
pub mod Differences
pub mod Joining
pub mod FramingLaws
pub mod Around
