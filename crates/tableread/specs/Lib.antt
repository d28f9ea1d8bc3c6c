-- What is read and sorted.
pub mod Sorted
