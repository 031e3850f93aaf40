pub mod DecimalLaws
pub mod DegreeLaws
pub mod TagLaws
pub mod ElementLaws
pub mod LineLaws
pub mod BoundLaws
pub mod WholeLaws
