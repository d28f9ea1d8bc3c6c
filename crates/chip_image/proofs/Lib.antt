-- The laws of what the program writes.
pub mod Writing
