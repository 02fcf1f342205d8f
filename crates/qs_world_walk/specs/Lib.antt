pub mod Stage
pub mod Deed
pub mod When
pub mod May
pub mod Walked
pub mod Whole
