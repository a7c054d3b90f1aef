mod Sums
mod Downs
mod Moves
pub mod Fills
mod Frees
pub mod Ledgers
