-- What the node count counts, and a walk down that counts the same.
pub mod Nodes
pub mod Walk
