pub mod Clients
pub mod Reports
pub mod Records
