pub mod StepsLeft
pub mod Idling
pub mod Calls
pub mod Downs
pub mod Replies
pub mod Rounds
pub mod Examples
