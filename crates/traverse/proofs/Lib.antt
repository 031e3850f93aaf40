pub mod CopyLaws
pub mod PaceLaws
pub mod SizeLaws
pub mod LoopLaws
pub mod FieldLaws
