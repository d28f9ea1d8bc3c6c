-- Routes that lines can hold.
pub mod Held
