pub mod Accounts
pub mod Keeping
pub mod Reserved
pub mod SocketLists
