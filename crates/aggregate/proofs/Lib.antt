-- The laws of aggregate.
pub mod WalkLaws
pub mod CallLaws
