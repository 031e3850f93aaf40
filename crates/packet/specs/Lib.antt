pub mod DataPackets
