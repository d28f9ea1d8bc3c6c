-- The work room that a table needs.
pub mod Needed
