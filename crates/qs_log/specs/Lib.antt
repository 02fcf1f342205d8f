-- What a log on a disk is.
pub mod Image
pub mod Log
