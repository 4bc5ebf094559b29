pub mod Faults
pub mod Handlings
pub mod LogLines
