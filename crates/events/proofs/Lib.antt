pub mod DigitRuns
pub mod ReaderFaults
pub mod OneVerdict
pub mod FirstEighty
pub mod OneCut
pub mod AtLine
