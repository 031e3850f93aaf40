pub mod PacketLaws
pub mod WalkLaws
pub mod FieldLaws
