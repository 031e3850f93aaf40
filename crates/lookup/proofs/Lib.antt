pub mod PlaceLaws
pub mod PartLaws
pub mod KnownLaws
