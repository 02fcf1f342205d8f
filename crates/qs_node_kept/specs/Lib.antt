pub mod Index
pub mod Ledger
pub mod Keeping
pub mod Loans
pub mod Places
