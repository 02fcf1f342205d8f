-- What a run of packets leaves.
pub mod Packets
-- Many disks, and whichever image a power cut leaves of each.
pub mod Disks
-- What a run of many nodes leaves on them.
pub mod Left
-- What the logs of those images stand for.
pub mod Standing
-- Disks that were only touched.
pub mod Touched
