-- What the two header slots of a disk say.
pub mod Slot
pub mod Turning
pub mod Opening
pub mod Body
