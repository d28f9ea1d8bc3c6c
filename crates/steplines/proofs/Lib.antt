-- Laws behind the text of steps.
pub mod StepLines
