pub mod TextLaws
pub mod LeafLaws
pub mod RecordLaws
pub mod FormSize
pub mod FieldLaws
pub mod WholeLaws
