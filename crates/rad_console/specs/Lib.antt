pub mod Closing
pub mod Commands
pub mod Lanes
pub mod Lines
pub mod Totals
