-- The planner, in the order to read it: what its answer says; how it looks for the steps.
pub mod Planning
pub mod Due
