-- A room of one value.
pub mod Rooms
