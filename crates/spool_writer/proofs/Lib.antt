mod Accounts
mod Merging
pub mod KeysOfWaiting
pub mod HoldsWaiting
pub mod Settling
