-- What the contracts of writer say.
pub mod Write
