-- The laws of runs: lists of routes by number, a table's records as such a list, and a position's run taken apart.
pub mod Records
pub mod Halves
