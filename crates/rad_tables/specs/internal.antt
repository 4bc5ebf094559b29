pub mod Least
pub mod Kept
