-- What the contracts of assign say: how a node's sets are packed into words, and what its addresses are answered and its positions assigned.
pub mod Packed
pub mod Answers
