-- Plans, in the order to read them: what the checker's answer says, and when it refuses; what it finds out on the way.
pub mod Judging
pub mod Conditions
pub mod Following
pub mod Deciding
