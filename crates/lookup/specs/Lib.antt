-- What lookup and addresses held answer.
pub mod Calls
