pub mod PaddedLaws
pub mod OpenLaws
pub mod JudgeLaws
pub mod GatherLaws
pub mod FeedLaws
pub mod KeptLaws
