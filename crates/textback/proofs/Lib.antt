-- Numbers in decimal read as words, lines, and whole texts that read back.
pub mod Decimals
pub mod Lines
pub mod Back
