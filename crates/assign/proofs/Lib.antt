-- The laws of assign.
pub mod PackedLaws
pub mod AssignLaws
pub mod LeafLaws
