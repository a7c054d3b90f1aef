mod Orders
mod Trees
mod Writes
mod Members
mod Room
mod Swaps
mod Changes
mod Parts
