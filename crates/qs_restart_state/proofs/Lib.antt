pub mod Lists
pub mod Saying
pub mod GoesOn
pub mod Takable
pub mod Taken
pub mod Opens
