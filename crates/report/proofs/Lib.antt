pub mod RecordLaws
pub mod ConnectionLaws
pub mod BillingLaws
