pub mod Queue
pub mod Ipc
