-- The definitions of the chip loader, in the order to read them, after the theory's Falling: what the chip answers, the slot image and how it is read back, the
-- call's statement, its conditions for a refusal; and what the loader's functions write.
pub mod Chip
pub mod Images
pub mod Loading
pub mod Conditions
pub mod Placing
