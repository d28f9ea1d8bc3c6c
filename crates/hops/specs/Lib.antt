-- What the contracts of hops say.
pub mod Sets
