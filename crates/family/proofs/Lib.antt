mod Places
pub mod Performing
