-- What a run of packets gives each node.
pub mod RunsBegin
-- Local runs of all nodes are in one run.
pub mod InOneRun
-- Sites that stand in the world by themselves are in one.
pub mod AllThere
-- What was put and taken, amid a visit.
pub mod Amid
-- A cell with room in its log.
pub mod Cells
-- A node on its way.
pub mod OnWay
-- A visit of a node.
pub mod Visited
-- All sites.
pub mod Sites
-- Whole runs.
pub mod Runs
