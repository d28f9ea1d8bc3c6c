-- What the contracts of maximal say.
pub mod Maximal
