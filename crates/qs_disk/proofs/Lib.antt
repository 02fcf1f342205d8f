-- Facts on ranges of bytes, on images, and on stretches of calls.
pub mod Ranges
pub mod Sizes
pub mod Images
pub mod Moments
pub mod Fuses
