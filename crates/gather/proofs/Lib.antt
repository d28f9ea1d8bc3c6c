-- The laws of what a pass over a node's run finds, and of the loops over what it found.
pub mod Halves
pub mod GatherPlaces
pub mod GatherRuns
pub mod GatherSteps
pub mod GatherMarks
pub mod GatherSlots
pub mod GatherCovers
pub mod GatherLaws
pub mod MemberLaws
pub mod BusySlots
pub mod MarkedBits
