pub mod Bids
pub mod View
pub mod Plain
