pub mod Workers
pub mod Lines
pub mod Traced
pub mod FileFaults
