-- The laws of the cases of a live map. Laid: how long a line is. Carried: what a command does.
pub mod Laid
pub mod Carried
