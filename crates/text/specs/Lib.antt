pub mod Texts
pub mod PlainNumbers
