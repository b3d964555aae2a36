pub mod Returned
pub mod ExportedRuns
pub mod ExportedReads
pub mod ExportedRoundTrip
