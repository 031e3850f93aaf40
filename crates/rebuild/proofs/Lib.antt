pub mod OffsetLaws
pub mod LayoutLaws
pub mod Bounds
pub mod RunLaws
pub mod CandidateLaws
