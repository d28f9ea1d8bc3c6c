-- Runs of a table's records.
pub mod Runs
