pub mod Families
pub mod Orders
