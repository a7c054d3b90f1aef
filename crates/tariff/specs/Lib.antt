pub mod Requests
pub mod Faults
pub mod Refused
pub mod Listings
