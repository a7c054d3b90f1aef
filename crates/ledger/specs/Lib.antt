pub mod Stacks
pub mod Links
pub mod Ledgers
