pub mod Edits
pub mod Slots
pub mod Sums
pub mod Texts
pub mod Written
