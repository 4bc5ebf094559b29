pub mod Lines
pub mod Moments
pub mod Same
pub mod Written
pub mod internal
