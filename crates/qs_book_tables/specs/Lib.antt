pub mod Edits
pub mod Held
pub mod Index
pub mod Refusals
pub mod Restarts
pub mod Sizes
pub mod Staged
pub mod Views
