pub mod ElementLaws
pub mod ReadLaws
pub mod SearchLaws
pub mod NumberLaws
