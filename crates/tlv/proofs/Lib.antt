pub mod FormLaws
pub mod DecodedBytes
pub mod PacketOfLaws
