pub mod Ends
pub mod Records
pub mod Members
pub mod View
pub mod Clocks
