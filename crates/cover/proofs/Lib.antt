-- The laws of cover.
pub mod CoverLaws
