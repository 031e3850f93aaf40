pub mod Crc
pub mod Bits
pub mod Fold
pub mod Table
