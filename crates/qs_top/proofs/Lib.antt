-- Where the log had room, and what the judge refuses.
mod Coherent
-- What a run is once its output was given.
mod Given
-- What the machine opens with.
mod Held
-- What a status says of how a run ended.
mod StatusLemmas
-- The lines of a history that was read are few enough to be numbered.
mod VerdictLemmas
mod Courses
-- The disks of no node of a run.
mod Others
-- What all nodes of a run tell.
mod NodesTold
-- What the machine opens with.
mod NodesMachine
-- Which end a run came to.
mod NodesCame
-- What its nodes tell, once it is judged.
mod NodesTraced
-- What it is once its output was given.
mod NodesGiven
-- What it leaves.
mod NodesLeft
-- What it leaves where memory was refused.
mod NodesUntold
-- The room that it leaves.
mod NodesRoomy
-- Its journal, and the disks that are named.
mod NodesLawful
-- The text of its script, be it made or read.
mod TextLemmas
-- It, by the disks of which it is and that text.
mod NodesThese
-- How many nodes are asked for.
mod Forms
-- What is promised of it without its rounds.
mod Promised
