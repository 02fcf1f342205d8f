pub mod Shuffles
-- The rounds that a script has.
pub mod Budgets
