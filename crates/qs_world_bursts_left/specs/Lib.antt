-- Room through bursts.
pub mod Rooms
-- What a run leaves, whichever way it ends.
pub mod Endings
