pub mod StoredLaws
pub mod CutLaws
pub mod LittleLaws
pub mod EntryLaws
pub mod PlaceLaws
