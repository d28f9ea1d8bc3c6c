-- The laws of checking: what the code's tests and numbers come to.
pub mod Stepping
