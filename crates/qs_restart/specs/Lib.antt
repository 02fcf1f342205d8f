pub mod Recovery
pub mod Places
pub mod Standing
