pub mod Dues
pub mod Keys
pub mod Lends
pub mod Pairs
pub mod Waiting
pub mod internal
