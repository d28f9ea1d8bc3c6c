-- The laws of the planner: what is due, record by record; level by level, which is the plan; how many it is; the answers; the room while it is written; the
-- plan as the checker reads it; what the statement settles; and host bits.
pub mod Records
pub mod Levels
pub mod Counts
pub mod Answers
pub mod Writing
pub mod Believed
pub mod Calls
pub mod Masking
