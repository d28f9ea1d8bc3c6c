-- What the program writes.
pub mod Written
