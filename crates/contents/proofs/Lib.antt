pub mod ListLaws
pub mod SizeLaws
pub mod RecordLaws
pub mod TableLaws
pub mod WordLaws
pub mod RowLaws
