pub mod Faults
pub mod Kinds
pub mod Texts
pub mod Format
pub mod Reading
pub mod Writing
pub mod Laws
