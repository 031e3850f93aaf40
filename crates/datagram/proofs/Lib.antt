pub mod DatagramLaws
pub mod WalkLaws
pub mod FieldLaws
