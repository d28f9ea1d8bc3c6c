-- What the check refuses, and what the statement settles.
pub mod Refused
pub mod Exactly
