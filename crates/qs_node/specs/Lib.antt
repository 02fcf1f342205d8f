pub mod Labelled
pub mod Due
pub mod Closed
pub mod Contents
pub mod Begun
pub mod Pending
