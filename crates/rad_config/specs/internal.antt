pub mod Values
pub mod Index
