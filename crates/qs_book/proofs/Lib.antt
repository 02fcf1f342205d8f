pub mod Looking
pub mod Loops
pub mod Once
pub mod Serving
