-- Checking, in the order to read it: the lengths that have a hop; a step, and a class as the steps are followed.
pub mod Marks
pub mod Checking
