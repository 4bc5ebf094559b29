pub mod Taking
pub mod KeepAnswer
pub mod Cutting
pub mod NextDue
pub mod Invariant
pub mod Keys
