pub mod ExportedRuns
