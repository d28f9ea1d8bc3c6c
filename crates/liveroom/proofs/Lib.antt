-- The laws of the room of a live map, in the order to read them.
pub mod Reading
pub mod Storing
pub mod Sound
pub mod Moving
pub mod Passing
pub mod Holding
pub mod Placing
pub mod Looking
pub mod Changing
