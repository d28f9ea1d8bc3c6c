-- The laws of the functions for C. Flags: what the flags say. Settled: no second result satisfies a statement. Numbered: when the result is 0, and
-- which refusal it names else. LiveMaps: both, on a live map.
pub mod Flags
pub mod Settled
pub mod Numbered
pub mod LiveMaps
