pub mod Same
pub mod TidOrder
