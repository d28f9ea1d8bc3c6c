-- What the program is asked for, and how much of its input decides the answer.
pub mod Words
pub mod Input
