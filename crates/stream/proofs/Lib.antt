pub mod StreamLaws
pub mod FlowLaws
pub mod ItemLaws
