-- Laws behind the reading of steps.
pub mod Alike
