pub mod Adding
pub mod Behind
pub mod Fine
pub mod Longer
pub mod Numbers
