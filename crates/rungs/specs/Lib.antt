-- The rungs of an address.
pub mod Rungs
