pub mod Hex
pub mod Decimal
pub mod Calendar
