pub mod There
pub mod Steps
pub mod Keeps
pub mod Reports
pub mod Ledger
pub mod OneRaised
