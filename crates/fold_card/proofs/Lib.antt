-- The laws of the fold card's text.
pub mod Boxes
