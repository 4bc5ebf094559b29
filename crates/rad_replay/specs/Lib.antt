pub mod Faults
pub mod Hex
pub mod Lines
pub mod PacketText
pub mod Path
pub mod Pieces
pub mod Replaying
pub mod Sent
