-- What the functions for C promise. Numbers: the numbers of an answer. Calls: the statement of each function. LiveCalls: the same on a live map.
pub mod Numbers
pub mod Calls
pub mod LiveCalls
