-- The laws of the two walks.
pub mod SlotLaws
pub mod CollectLaws
pub mod RewriteLaws
