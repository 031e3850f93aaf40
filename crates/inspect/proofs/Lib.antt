pub mod WordLaws
pub mod FirstLaws
