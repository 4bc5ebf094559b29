pub mod Accounts
pub mod Keeping
pub mod Queues
pub mod Taken
