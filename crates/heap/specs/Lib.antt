pub mod Heaps
pub mod Steps
pub mod Indexed
