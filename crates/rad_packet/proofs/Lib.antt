pub mod Buffer
pub mod Each
pub mod Exclusive
pub mod Joined
pub mod OneReading
pub mod Parts
pub mod Scan
pub mod Walk
