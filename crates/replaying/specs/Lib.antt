-- What the program replay keeps for a case.
pub mod Answers
