pub mod AreListed
pub mod LinksBring
pub mod TracesRun
pub mod PutsOn
pub mod SessionsAre
pub mod MessagesTaken
pub mod TicksTaken
