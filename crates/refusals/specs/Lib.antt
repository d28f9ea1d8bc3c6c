-- How a call refuses, and in which order conditions for a refusal are checked.
pub mod Rules
pub mod Order
pub mod Numbers
