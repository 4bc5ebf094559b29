pub mod World
pub mod Happens
pub mod Acknowledged
pub mod Asking
pub mod Repeating
pub mod Delivering
