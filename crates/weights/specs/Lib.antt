-- What the nodes of a table weigh, and the work room that each mode needs.
pub mod Weights
pub mod Needed
