-- What the contracts of nodes say: a node as a run of records, what is written of it, and the work room.
pub mod Node
pub mod Output
pub mod Room
