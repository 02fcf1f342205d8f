-- The rules of a script by kinds: of clients, of files and of stops.
pub mod Kinds
-- The laws of the kinds of rules.
pub mod KindLaws
-- The loans that a node keeps of a client, and those that the course has of it.
pub mod Loans
-- The laws of loans.
pub mod LoanLaws
-- What the course has of a client, beside what its node has for it.
pub mod Clients
-- Which answers are due.
pub mod Due
-- What a command makes.
pub mod Making
-- What an answer makes of the course.
pub mod Answered
-- What a loan and a serve make of the course, and what leaves it.
pub mod Going
-- Crashes of one node and the fault lines of the script.
pub mod Lines
-- What the course of a run has of its world.
pub mod Worlds
-- What a step does for clients, with its reasons.
pub mod Reasons
