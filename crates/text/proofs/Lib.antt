pub mod HexLaws
pub mod HexAgain
pub mod CalendarLaws
pub mod DecimalLaws
pub mod NumberLaws
