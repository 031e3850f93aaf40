pub mod KindLaws
pub mod WalkLaws
pub mod TakenLaws
