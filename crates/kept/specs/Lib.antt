-- What a case of replay says, and where its text is kept.
pub mod Kept
pub mod Lines
