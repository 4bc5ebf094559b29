pub mod KeptSecret
pub mod Parted
pub mod Returning
pub mod Zeroed
