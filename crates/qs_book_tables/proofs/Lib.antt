pub mod Following
pub mod IndexSteps
pub mod Restarted
pub mod ShareSteps
pub mod Sizes
pub mod Staging
pub mod Taken
pub mod Texts
