pub mod Fields
pub mod Registers
