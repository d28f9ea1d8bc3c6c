-- The laws of positions, runs and walks.
pub mod Wide
pub mod Runs
pub mod RunsNode
pub mod Slots
pub mod Modes
pub mod Hops
pub mod Counts
