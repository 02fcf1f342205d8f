-- What is told of a disk over a file.
pub mod File
