-- The laws of the calls. Settled: no second answer satisfies a statement. Refusals, Results, Demand3: the three demands, of the engine over nodes. Engines:
-- the demands of any engine. Held: addresses held before and after a rewrite. Shortest: no table that says the same is shorter than what modes 1, 4 and 5
-- write. Ranks: what ranks decide. Retired: tables that mode 2 wrote. Marked: document 01's marked cases, and one of records of 16 bytes. Wrong: its wrong rewrites. Enough: rooms that are always
-- enough. Masking: host bits. Tested says how the rules stand for the conditions, Ending how an engine's answer comes to meet its statement.
pub mod Settled
pub mod Tested
pub mod Engines
pub mod Refusals
pub mod Results
pub mod Enough
pub mod Demand3
pub mod Held
pub mod Shortest
pub mod Ranks
pub mod Retired
pub mod Marked
pub mod Wrong
pub mod Modes
pub mod Ending
pub mod Masking
