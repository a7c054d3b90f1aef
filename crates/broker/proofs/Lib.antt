pub mod Lowest
mod Others
pub mod Steps
mod Asks
mod Clock
