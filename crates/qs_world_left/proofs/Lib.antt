-- A run of packets leaves coherent logs.
pub mod RunsLeave
-- Logs are coherent by what they have below their size.
pub mod SameBelow
-- Disks are read as they were left, and one disk.
pub mod DisksRead
-- A node comes to a world with the log of each image of its disk.
pub mod Chosen
-- The sites of a run are in the world.
pub mod Reached
-- All sites leave their disks coherent.
pub mod SitesLeave
-- A choice for each number, as a function.
pub mod Choosing
-- As they begin, and one run behind another.
pub mod Raised
-- The last step of a run, and the host that made it.
pub mod LastStamps
-- A run of packets leaves logs that stand for the machine.
pub mod RunsStand
-- So do all sites.
pub mod SitesStand
-- Disks that were only touched stay coherent.
pub mod TouchedStay
