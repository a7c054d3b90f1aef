pub mod Named
pub mod Bids
pub mod Tests
pub mod RankIsOneOrder
pub mod PricesAreLawful
