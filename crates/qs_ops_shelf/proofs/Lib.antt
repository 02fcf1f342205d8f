pub mod Claimed
pub mod Committed
pub mod Files
pub mod Following
pub mod Pending
pub mod Steps
