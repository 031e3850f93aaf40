pub mod Form
pub mod Decoding
pub mod PacketOf
