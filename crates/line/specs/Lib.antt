pub mod Pieces
pub mod Lines
pub mod LineReader
pub mod LineElements
pub mod RecordLines
pub mod SameFields
