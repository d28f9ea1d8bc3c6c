-- What the contracts of gather say.
pub mod Gathered
