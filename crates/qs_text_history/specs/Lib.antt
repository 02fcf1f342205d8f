pub mod Begun
pub mod Inner
pub mod Journal
pub mod Laws
pub mod Reading
pub mod Said
pub mod Spelled
pub mod Words
