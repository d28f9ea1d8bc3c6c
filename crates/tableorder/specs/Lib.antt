-- Rows, their order, and what sorting them leaves.
pub mod Rows
