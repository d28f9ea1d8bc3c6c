-- The definitions of the live map, in the order to read them, after Rooms of the crate liveroom: what a simple table of routes answers; what each call
-- answers and leaves; sequences of calls; the conditions for a refusal, as facts. Inner is for the inner functions.
pub mod Tables
pub mod Calls
pub mod Sequences
pub mod Conditions
pub mod Inner
