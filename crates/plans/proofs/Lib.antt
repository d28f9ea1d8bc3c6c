-- The laws of plans: the marks of a class, the steps followed for a prefix, the rules, what the checker finds out, two tables that are one; what its statement settles, and which refusals it gives.
pub mod Marking
pub mod Following
pub mod Rules
pub mod Deciding
pub mod Unchanged
pub mod Checked
pub mod Calls
pub mod Tested
pub mod Refusals
pub mod Masking
pub mod Wrong
