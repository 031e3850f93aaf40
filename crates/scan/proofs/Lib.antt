pub mod RunLaws
pub mod FieldLaws
pub mod DegreesLaws
pub mod TagLaws
pub mod ElementLaws
pub mod WalkLaws
pub mod AnswerLaws
