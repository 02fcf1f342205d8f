pub mod Changed
pub mod Claims
pub mod Plain
pub mod Slots
pub mod Texts
