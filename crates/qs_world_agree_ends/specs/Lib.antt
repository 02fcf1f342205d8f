pub mod Requests
pub mod Engagement
pub mod Moments
pub mod Waiting
pub mod Still
pub mod Word
pub mod Telling
pub mod Seen
