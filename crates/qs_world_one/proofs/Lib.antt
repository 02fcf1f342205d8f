-- What is on its way in a lane.
pub mod Ways
-- A client as lanes are carried and as it has its turn.
pub mod Clients
-- A client as the node takes its command, answers, stops and starts again.
pub mod Hands
-- The clients of a cell as a command comes.
pub mod Handing
-- The clients of a cell as answers go out.
pub mod AnswersOut
-- A step answers each client once.
pub mod AnswersOnce
-- What its log says is of transactions.
pub mod Named
pub mod RoomyAlone
-- Its log has room, as the world that it is in gives it.
pub mod RoomyCells
-- Numbers of lanes and clients stay.
pub mod Numbers
-- A run without clients over the log of a world.
pub mod NextOver
-- The log of a world stands for the machine.
pub mod StandsOver
-- A node over its log is a host of the world.
pub mod AsHost
