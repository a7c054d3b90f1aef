pub mod Printed
pub mod Session
pub mod Asks
pub mod Input
pub mod Examples
