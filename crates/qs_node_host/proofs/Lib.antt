-- What a step makes of the log, what stands on the disk meanwhile, and what room it finds.
pub mod Carrying
pub mod Rooms
pub mod Fresh
