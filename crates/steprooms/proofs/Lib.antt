-- Laws behind the reading of steps from bytes.
pub mod Filled
