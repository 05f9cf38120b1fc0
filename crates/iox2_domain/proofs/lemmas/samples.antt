-- Borrowed messages are found and read.
pub mod BorrowedNumbers
pub mod SampleEntries
pub mod SampleReads
pub mod HintedSamples
