-- The pieces of a line, what a line says, and what a text says.
pub mod Pieces
pub mod Lines
pub mod Reading
