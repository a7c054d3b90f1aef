pub mod Kept
pub mod PlainNumbers
