-- Which rule is the first that does something for a transaction.
pub mod Firsts
