pub mod Answers
pub mod Numbers
pub mod Offers
pub mod Prices
pub mod Rank
pub mod Refusals
pub mod Laws
