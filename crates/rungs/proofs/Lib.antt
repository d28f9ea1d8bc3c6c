-- The laws of rungs: a row of numbers by length and its top; which records a climb takes and which it passes over.
pub mod Rows
pub mod Climbing
