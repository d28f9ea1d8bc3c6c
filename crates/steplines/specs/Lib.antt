-- The text of steps.
pub mod Lines
