pub mod Decimals
mod Holding
mod Steps
mod Asks
mod OnePrinting
mod Inputs
mod LineExamples
