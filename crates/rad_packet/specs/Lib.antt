pub mod Attribute
pub mod Packet
pub mod Reading
pub mod Item
pub mod Place
pub mod Writing
pub mod Faults
