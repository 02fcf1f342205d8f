pub mod FileOrder
pub mod Written
