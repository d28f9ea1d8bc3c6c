-- What holds of the program: Words, of the numbers on the command line; Whole, of an input of any length; Shrunk, of every accepted table.
pub mod Words
pub mod Whole
pub mod Shrunk
