-- What is said of lines of steps.
pub mod Reading
