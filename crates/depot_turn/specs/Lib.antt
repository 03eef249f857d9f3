pub mod Depot
pub mod Texts
pub mod Turns
