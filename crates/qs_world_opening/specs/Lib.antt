pub mod Coherent
pub mod Scripts
pub mod CourseScripts
