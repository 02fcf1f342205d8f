-- The lines of a load script.
pub mod Lines
-- The whole of it, as a function of its seed.
pub mod Load
