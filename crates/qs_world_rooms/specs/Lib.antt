-- What a run of packets gives each node.
pub mod Packets
-- Room in the logs of all nodes.
pub mod Rooms
-- What a run leaves of it.
pub mod Leaving
