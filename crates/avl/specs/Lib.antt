pub mod Codecs
pub mod Narrow
pub mod Records
pub mod RecordReader
pub mod DataField
pub mod Offending
