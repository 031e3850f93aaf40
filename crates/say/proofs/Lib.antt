pub mod PageLaws
pub mod RenderingLaws
pub mod LineLaws
