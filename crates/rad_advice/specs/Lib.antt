pub mod Doubts
pub mod Faults
pub mod Homes
pub mod Keys
pub mod Place
pub mod Printed
pub mod Syntax
pub mod Telling
