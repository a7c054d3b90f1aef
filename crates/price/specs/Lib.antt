pub mod Bids
pub mod Sheets
