pub mod EventKinds
pub mod Grammar
pub mod Events
pub mod Faults
pub mod Reading
pub mod Input
pub mod LineFaults
