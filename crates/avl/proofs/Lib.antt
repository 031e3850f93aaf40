pub mod RecordLaws
pub mod DataLaws
pub mod ByteLaws
pub mod Samples
pub mod Inversion
pub mod FieldLaws
pub mod OffendingLaws
