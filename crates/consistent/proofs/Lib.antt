-- The laws of mode 3.
pub mod MapLaws
