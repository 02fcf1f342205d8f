pub mod Knowing
pub mod BookCommits
pub mod ThinRestarts
pub mod Rising
