pub mod FirstValue
pub mod Lanes
pub mod UserNames
pub mod Exclusive
