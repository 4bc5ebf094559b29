pub mod World
pub mod Happens
pub mod Laws
pub mod Files
pub mod Example
pub mod Network
