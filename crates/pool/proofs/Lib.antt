pub mod Views
pub mod Records
pub mod Starts
pub mod Tables
pub mod Changes
pub mod Grants
pub mod Clocks
pub mod Drops
