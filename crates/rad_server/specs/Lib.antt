pub mod internal
pub mod Ports
