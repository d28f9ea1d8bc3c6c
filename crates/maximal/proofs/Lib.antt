-- The laws of mode 1.
pub mod MaximalLaws
pub mod MaximalRoom
